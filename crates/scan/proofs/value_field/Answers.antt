use mathlib.Core.Path.{sym, ◌∙◌}
use native.Mathlib.Omega.{arith}
use Rattle.scan.proofs.FieldLaws.{stands-yes}
use Rattle.scan.proofs.ElementLaws.{value-tag, value-no-tag, value-behind, value-plain, value_none}
use Rattle.scan.proofs.value_field.Goals as goal

pub tag_field-requires : goal.tag_field-requires
tag_field-requires c = let h = stands-yes _ _ _ (sym c.stands.ensures ∙ c.if-stands.true) in omega (arith, h.0)

pub returns-then-stands : goal.returns-then-stands
returns-then-stands c = value-tag _ _ _ _ (sym c.stands.ensures ∙ c.if-stands.true) (sym c.in_ok-size.was ∙ c.tag_field.ensures)

pub returns-in_err-size : goal.returns-in_err-size
returns-in_err-size c = c.from_residual.ensures ∙ value-no-tag _ _ _ _ (sym c.stands.ensures ∙ c.if-stands.true) (sym c.in_err-size.was ∙ c.tag_field.ensures)

pub returns-then-tags : goal.returns-then-tags
returns-then-tags c = value-behind _ _ _ _ c.requires (sym c.stands.ensures ∙ c.if-stands.false) c.if-tags.true

pub returns : goal.returns
returns c = value-plain _ _ _ _ c.requires (sym c.stands.ensures ∙ c.if-stands.false) c.if-tags.false (sym c.in_ok-n.was ∙ c.number_field.ensures)

pub returns-in_err-n : goal.returns-in_err-n
returns-in_err-n c = c.from_residual-in_err-n.ensures ∙ value_none _ _ _ _ c.requires (sym c.stands.ensures ∙ c.if-stands.false) c.if-tags.false (sym c.in_err-n.was ∙ c.number_field.ensures)
