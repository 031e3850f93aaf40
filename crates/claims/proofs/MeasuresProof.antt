-- What demand 3 compares packets by: each row computes.
use mathlib.Core.Path.{refl}
use Rattle.claims.specs.Measures.{measures, AsMeasured}
use Rattle.claims.proofs.Computing.{computing}

pub demand-3-measures : AsMeasured
unfolding computing measures
demand-3-measures = (refl, (refl, (refl, (refl, (refl, (refl, (refl, (refl, (refl, (refl, tt))))))))))
