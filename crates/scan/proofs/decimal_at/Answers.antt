use mathlib.Core.Path.{sym, ◌∙◌}
use native.Mathlib.Omega.{arith}
use Rattle.scan.proofs.FieldLaws.{at-over, at_none, at-large, at-inside, at-spare, at-good}
use Rattle.scan.proofs.decimal_at.Goals as goal

pub returns-then-end-at : goal.returns-then-end-at
returns-then-end-at c = at_none _ _ _ (sym c.in_ok-n.was ∙ c.digit_run.ensures) c.if-end-at.true

pub returns-then-most-n : goal.returns-then-most-n
returns-then-most-n c = at-large _ _ _ (sym c.in_ok-n.was ∙ c.digit_run.ensures) c.if-most-n.true

pub bounds-t-at : goal.bounds-t-at
bounds-t-at c = let h = at-inside _ _ c.args.most (sym c.in_ok-n.was ∙ c.digit_run.ensures) c.requires in omega (arith, h, c.if-end-at.false)

pub returns-then-at-end : goal.returns-then-at-end
returns-then-at-end c = at-spare _ _ _ (sym c.in_ok-n.was ∙ c.digit_run.ensures) c.requires c.if-t-at-eq48.true c.if-at-end.true

pub returns-in_err-n : goal.returns-in_err-n
returns-in_err-n c = c.from_residual.ensures ∙ at-over _ _ _ (omega arith) (sym c.in_err-n.was ∙ c.digit_run.ensures)

pub returns-else-at-end : goal.returns-else-at-end
returns-else-at-end c = at-good _ _ _ (sym c.in_ok-n.was ∙ c.digit_run.ensures) c.requires (omega (arith, c.if-end-at.false)) c.if-most-n.false (λ z. c.if-at-end.false)

pub returns-else-t-at-eq48 : goal.returns-else-t-at-eq48
returns-else-t-at-eq48 c = at-good _ _ _ (sym c.in_ok-n.was ∙ c.digit_run.ensures) c.requires (omega (arith, c.if-end-at.false)) c.if-most-n.false (λ z. absurd (c.if-t-at-eq48.false z))
