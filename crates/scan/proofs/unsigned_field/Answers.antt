use mathlib.Core.Path.{sym, ◌∙◌}
use native.Mathlib.Omega.{arith}
use Rattle.scan.proofs.FieldLaws.{stands-yes, number-told, decimal-most}
use Rattle.scan.proofs.DegreesLaws.{unsigned-wrong, unsigned-open, unsigned-on}
use Rattle.scan.proofs.unsigned_field.Goals as goal

pub overflow_add-point : goal.overflow_add-point
overflow_add-point c = let h = stands-yes _ _ _ (sym c.stands.ensures ∙ c.if-stands.true) in omega (arith, h.0)

pub places_at-requires : goal.places_at-requires
places_at-requires c = let h = stands-yes _ _ _ (sym c.stands.ensures ∙ c.if-stands.true) in (omega (arith, h.0), decimal-most _ _ (number-told _ _ (sym c.in_ok-whole.was ∙ c.decimal_at.ensures)).0)

pub returns-then-stands : goal.returns-then-stands
returns-then-stands c = c.places_at.ensures ∙ unsigned-on _ _ c.requires (sym c.in_ok-whole.was ∙ c.decimal_at.ensures) (number-told _ _ (sym c.in_ok-whole.was ∙ c.decimal_at.ensures)).1 (sym c.stands.ensures ∙ c.if-stands.true)

pub returns-in_err-whole : goal.returns-in_err-whole
returns-in_err-whole c = c.from_residual.ensures ∙ unsigned-wrong _ _ c.requires (sym c.in_err-whole.was ∙ c.decimal_at.ensures)

pub returns : goal.returns
returns c = unsigned-open _ _ c.requires (sym c.in_ok-whole.was ∙ c.decimal_at.ensures) (number-told _ _ (sym c.in_ok-whole.was ∙ c.decimal_at.ensures)).1 (sym c.stands.ensures ∙ c.if-stands.false)
