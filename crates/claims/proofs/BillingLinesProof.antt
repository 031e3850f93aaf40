-- The table of billing lines holds: each row computes.
use mathlib.Core.Path.{refl}
use Rattle.claims.specs.Rows.{AsSaid}
use Rattle.claims.specs.BillingLines.{written_lines, read_lines, line_elements, AsTheDeskReads}
use Rattle.claims.proofs.Computing.{computing}

written-as-said : AsSaid written_lines
unfolding computing written_lines
written-as-said = (refl, (refl, (refl, (refl, (refl, (refl, (refl, (refl, (refl, (refl, (refl, (refl, (refl, (refl, (refl, (refl, tt))))))))))))))))

read-as-said : AsSaid read_lines
unfolding computing read_lines
read-as-said = (refl, (refl, (refl, (refl, (refl, (refl, (refl, (refl, (refl, (refl, (refl, (refl, (refl, (refl, (refl, (refl, (refl, (refl, (refl, (refl, (refl, (refl, (refl, (refl, (refl, (refl, (refl, (refl, (refl, (refl, (refl, (refl, (refl, (refl, tt))))))))))))))))))))))))))))))))))

found-as-said : AsSaid line_elements
unfolding computing line_elements
found-as-said = (refl, (refl, (refl, (refl, (refl, (refl, (refl, (refl, (refl, (refl, (refl, (refl, tt))))))))))))

pub line-table : AsTheDeskReads
line-table = (written-as-said, (read-as-said, (found-as-said, tt)))
