use mathlib.Core.Path.{sym, ◌∙◌}
use native.Mathlib.Omega.{arith}
use Rattle.scan.proofs.FieldLaws.{stands-yes, number-told, decimal-most}
use Rattle.scan.proofs.ElementLaws.{element-wrong, element-open, element-on}
use Rattle.scan.proofs.element_field.Goals as goal

pub overflow_add-sign : goal.overflow_add-sign
overflow_add-sign c = let h = stands-yes _ _ _ (sym c.stands.ensures ∙ c.if-stands.true) in omega (arith, h.0)

pub overflow_cast-id : goal.overflow_cast-id
overflow_cast-id c = let h = decimal-most _ _ (number-told _ _ (sym c.in_ok-id.was ∙ c.decimal_at.ensures)).0 in omega (arith, h)

pub value_field-requires : goal.value_field-requires
value_field-requires c = let h = stands-yes _ _ _ (sym c.stands.ensures ∙ c.if-stands.true) in omega (arith, h.0)

pub returns-then-stands : goal.returns-then-stands
returns-then-stands c = c.value_field.ensures ∙ element-on _ _ _ c.requires (sym c.in_ok-id.was ∙ c.decimal_at.ensures) (sym c.stands.ensures ∙ c.if-stands.true)

pub returns-in_err-id : goal.returns-in_err-id
returns-in_err-id c = c.from_residual.ensures ∙ element-wrong _ _ _ c.requires (sym c.in_err-id.was ∙ c.decimal_at.ensures)

pub returns : goal.returns
returns c = element-open _ _ _ c.requires (sym c.in_ok-id.was ∙ c.decimal_at.ensures) (sym c.stands.ensures ∙ c.if-stands.false)
