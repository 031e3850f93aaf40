use mathlib.Core.Path.{sym, ◌∙◌}
use Rattle.scan.proofs.FieldLaws.{field-wrong, field-good, field_open, number-told}
use Rattle.scan.proofs.number_field.Goals as goal

pub returns-then-ends : goal.returns-then-ends
returns-then-ends c = field-good _ _ _ c.requires (sym c.in_ok-n.was ∙ c.decimal_at.ensures) (number-told _ _ (sym c.in_ok-n.was ∙ c.decimal_at.ensures)).1 (sym c.ends.ensures ∙ c.if-ends.true)

pub returns-in_err-n : goal.returns-in_err-n
returns-in_err-n c = c.from_residual.ensures ∙ field-wrong _ _ _ c.requires (sym c.in_err-n.was ∙ c.decimal_at.ensures)

pub returns : goal.returns
returns c = field_open _ _ _ c.requires (sym c.in_ok-n.was ∙ c.decimal_at.ensures) (number-told _ _ (sym c.in_ok-n.was ∙ c.decimal_at.ensures)).1 (sym c.ends.ensures ∙ c.if-ends.false)
