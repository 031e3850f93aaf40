use mathlib.Core.Path.{◌∙◌}
use native.Mathlib.Nat.{le_refl}
use Rattle.scan.proofs.FieldLaws.{stands-got}
use Rattle.scan.proofs.stands.Goals as goal

pub returns : goal.returns
returns c = c.eq.ensures ∙ stands-got _ _ _ _ c.get.ensures.lookup.0 (c.get.ensures.lookup.4 (le_refl c.args.at) 0)
