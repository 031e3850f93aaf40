use mathlib.Core.Path.{sym, ◌∙◌}
use native.Mathlib.Omega.{arith}
use Rattle.scan.proofs.FieldLaws.{number-told}
use Rattle.scan.proofs.WalkLaws.{line-open, line-empty, line-bad, line_on, or-ok, or-failed, number-within, cut-last, cut-rest}
use Rattle.scan.proofs.judge_line.Goals as goal

pub returns-in_default : goal.returns-in_default
returns-in_default c = line-empty c.args.s.now (omega (arith, c.in_default.ensures.cases))

pub returns-then-last-ne10 : goal.returns-then-last-ne10
returns-then-last-ne10 c = line-open c.args.s.now (λ e. c.if-last-ne10.true (sym (cut-last _ _ _ c.in-Some.ensures.cases) ∙ e))

pub returns-in_err-timestamp : goal.returns-in_err-timestamp
returns-in_err-timestamp c = let k = or-failed c.in_err-timestamp.was c.ok_or.ensures.value c.from_residual.ensures.1 in k.1 ∙ line-bad c.args.s.now (cut-last _ _ _ c.in-Some.ensures.cases ∙ c.if-last-ne10.false) (cut-rest _ _ _ c.in-Some.ensures.cases) (sym k.0 ∙ c.number_field.ensures)

pub overflow_add-end : goal.overflow_add-end
overflow_add-end c = let h = number-within _ _ (omega arith) _ (or-ok c.in_ok-timestamp.was c.ok_or.ensures.ok_part c.number_field.ensures) in omega (arith, h, c.in-Some.ensures.cases.1)

pub longitude_on-requires : goal.longitude_on-requires
longitude_on-requires c = let h = number-within _ _ (omega arith) _ (or-ok c.in_ok-timestamp.was c.ok_or.ensures.ok_part c.number_field.ensures) in omega (arith, h)

pub returns : goal.returns
returns c = line_on c.args.s.now (cut-last _ _ _ c.in-Some.ensures.cases ∙ c.if-last-ne10.false) (cut-rest _ _ _ c.in-Some.ensures.cases) (number-told _ _ (or-ok c.in_ok-timestamp.was c.ok_or.ensures.ok_part c.number_field.ensures)) c.longitude_on.ensures
