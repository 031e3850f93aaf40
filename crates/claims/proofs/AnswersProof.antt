-- The table of answers holds: each row computes.
use mathlib.Core.Path.{refl}
use Rattle.claims.specs.Rows.{AsSaid}
use Rattle.claims.specs.Answers.{readings, lookups, writings, AsThePaperAnswers}
use Rattle.claims.proofs.Computing.{computing}

read-as-said : AsSaid readings
unfolding computing readings
read-as-said = (refl, (refl, (refl, (refl, (refl, (refl, (refl, (refl, (refl, (refl, (refl, (refl, (refl, (refl, tt))))))))))))))

found-as-said : AsSaid lookups
unfolding computing lookups
found-as-said = (refl, (refl, (refl, (refl, (refl, (refl, (refl, (refl, (refl, (refl, (refl, (refl, (refl, (refl, (refl, (refl, (refl, (refl, (refl, (refl, (refl, (refl, (refl, (refl, (refl, tt)))))))))))))))))))))))))

written-as-said : AsSaid writings
unfolding computing writings
written-as-said = (refl, (refl, (refl, (refl, (refl, (refl, (refl, (refl, (refl, (refl, (refl, (refl, (refl, (refl, (refl, (refl, (refl, (refl, (refl, (refl, (refl, (refl, tt))))))))))))))))))))))

pub answer-table : AsThePaperAnswers
answer-table = (read-as-said, (found-as-said, (written-as-said, tt)))
