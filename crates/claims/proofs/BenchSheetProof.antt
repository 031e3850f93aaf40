-- P1 to P13 hold: each row computes.
use mathlib.Core.Path.{refl}
use Rattle.claims.proofs.Computing.{computing}
use Rattle.claims.specs.BenchSheet.{command_fields, sheet, AsTheSheetSays}

pub bench-sheet : AsTheSheetSays
unfolding computing command_fields sheet
bench-sheet = (refl, (refl, (refl, (refl, (refl, (refl, (refl, (refl, (refl, (refl, (refl, (refl, (refl, (refl, tt))))))))))))))
