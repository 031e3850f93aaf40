-- The table of places holds: each row computes.
use mathlib.Core.Path.{refl}
use Rattle.claims.specs.Rows.{AsSaid}
use Rattle.claims.specs.FieldPlaces.{missing_fields, first_of_two, AsThePaperPoints}
use Rattle.claims.proofs.Computing.{computing}

missing-fields : AsSaid missing_fields
unfolding computing missing_fields
missing-fields = (refl, (refl, (refl, (refl, (refl, (refl, (refl, (refl, (refl, (refl, (refl, (refl, (refl, (refl, (refl, (refl, (refl, (refl, (refl, (refl, (refl, (refl, (refl, (refl, (refl, (refl, (refl, (refl, (refl, (refl, (refl, (refl, (refl, (refl, (refl, (refl, (refl, (refl, (refl, (refl, (refl, (refl, (refl, (refl, (refl, (refl, (refl, tt)))))))))))))))))))))))))))))))))))))))))))))))

first-of-two : AsSaid first_of_two
unfolding computing first_of_two
first-of-two = (refl, (refl, (refl, (refl, (refl, (refl, (refl, (refl, (refl, tt)))))))))

pub place-table : AsThePaperPoints
place-table = (missing-fields, (first-of-two, tt))
