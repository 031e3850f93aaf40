use mathlib.Core.Path.{sym, ◌∙◌}
use native.Mathlib.Omega.{arith}
use Rattle.scan.proofs.FieldLaws.{stands-yes}
use Rattle.scan.proofs.DegreesLaws.{degrees-minus, degrees-plain}
use Rattle.scan.proofs.degrees_field.Goals as goal

pub unsigned_field-requires : goal.unsigned_field-requires
unsigned_field-requires c = let h = stands-yes _ _ _ (sym c.stands.ensures ∙ c.if-stands.true) in omega (arith, h.0)

pub returns-then-stands : goal.returns-then-stands
returns-then-stands c = degrees-minus _ _ c.requires (sym c.stands.ensures ∙ c.if-stands.true) c.unsigned_field.ensures c.negative_of.ensures

pub returns : goal.returns
returns c = degrees-plain _ _ c.requires (sym c.stands.ensures ∙ c.if-stands.false) c.unsigned_field-2.ensures c.positive_of.ensures
