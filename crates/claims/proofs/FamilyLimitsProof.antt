-- The table of families holds: each row computes.
use mathlib.Core.Path.{refl}
use Rattle.claims.specs.Rows.{AsSaid}
use Rattle.claims.specs.FamilyLimits.{unknown_families, family_limits, too_many_values, AsTheFamiliesAllow}
use Rattle.claims.proofs.Computing.{computing}

unknown-families : AsSaid unknown_families
unfolding computing unknown_families
unknown-families = (refl, (refl, (refl, (refl, (refl, (refl, (refl, (refl, (refl, (refl, (refl, (refl, (refl, (refl, (refl, (refl, (refl, (refl, (refl, (refl, (refl, (refl, (refl, (refl, (refl, (refl, (refl, (refl, tt))))))))))))))))))))))))))))

family-limits : AsSaid family_limits
unfolding computing family_limits
family-limits = (refl, (refl, (refl, (refl, (refl, (refl, (refl, (refl, (refl, (refl, (refl, (refl, (refl, (refl, (refl, (refl, (refl, (refl, (refl, (refl, (refl, (refl, (refl, (refl, (refl, (refl, tt))))))))))))))))))))))))))

too-many-values : AsSaid too_many_values
unfolding computing too_many_values
too-many-values = (refl, (refl, (refl, (refl, (refl, tt)))))

pub family-table : AsTheFamiliesAllow
family-table = (unknown-families, (family-limits, (too-many-values, tt)))
