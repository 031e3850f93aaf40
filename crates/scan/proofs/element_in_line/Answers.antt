use Rattle.std.specs.Prelude.{Err}
use mathlib.Core.Path.{refl, sym, ap, ◌∙◌}
use native.Mathlib.Omega.{arith}
use lib.ListN.{length, length-take}
use Prim.Native.Nat.{suc, ◌+◌, ◌-◌, ◌≤◌}
use Rattle.line.specs.LineElements.{element_at, field_start}
use Rattle.scan.proofs.WalkLaws.{cut-body}
use Rattle.scan.proofs.AnswerLaws.{line_taken, line-wrong, answers-refused, answers-as, start_is, no_line, no-element, number_small, number-place, number-inside}
use Rattle.scan.proofs.element_in_line.Goals as goal

pub returns-then-f-k : goal.returns-then-f-k
returns-then-f-k c = let k = line_taken c.args.s.now (field_start c.args.s.now 4) (sym c.in-Ok.is ∙ c.judge_line.ensures) in record { answer = ap Err c.of-then-f-k.ensures ∙ (answers-refused _ _ (no-element c.args.s.now k.0 k.1 c.args.k (omega (arith, k.3, c.if-f-k.true)))).0; buffer = (answers-refused _ _ (no-element c.args.s.now k.0 k.1 c.args.k (omega (arith, k.3, c.if-f-k.true)))).1 }

pub overflow_sub-last : goal.overflow_sub-last
overflow_sub-last c = let k = line_taken c.args.s.now (field_start c.args.s.now 4) (sym c.in-Ok.is ∙ c.judge_line.ensures) in (number-inside c.args.s.now k.0 k.1 c.args.k (omega (arith, k.3, c.if-f-k.false))).1

pub overflow_add-k : goal.overflow_add-k
overflow_add-k c = let k = line_taken c.args.s.now (field_start c.args.s.now 4) (sym c.in-Ok.is ∙ c.judge_line.ensures) in let some : suc c.args.k ≤ length k.0.elements = omega (arith, k.3, c.if-f-k.false) in omega (arith, number_small c.args.s.now k.0 k.1 c.args.k some, (number-inside c.args.s.now k.0 k.1 c.args.k some).0, length-take (length c.args.s.now - 1) c.args.s.now)

pub returns-in-Err : goal.returns-in-Err
returns-in-Err c = record { answer = ap Err c.of.ensures ∙ (answers-refused _ _ (no_line c.args.s.now c.args.k (line-wrong c.args.s.now _ (sym c.in-Err.is ∙ c.judge_line.ensures)).0)).0; buffer = (answers-refused _ _ (no_line c.args.s.now c.args.k (line-wrong c.args.s.now _ (sym c.in-Err.is ∙ c.judge_line.ensures)).0)).1 }

pub returns-else-f-k : goal.returns-else-f-k
returns-else-f-k c = let k = line_taken c.args.s.now (field_start c.args.s.now 4) (sym c.in-Ok.is ∙ c.judge_line.ensures) in let some : suc c.args.k ≤ length k.0.elements = omega (arith, k.3, c.if-f-k.false) in let at = start_is c.args.s.now (4 + c.args.k) (cut-body c.args.s.now refl) c.field_start-at.ensures in record { answer = (answers-as _ _ (ap (element_at c.args.s.now) at ∙ number-place c.args.s.now k.0 k.1 c.args.k some) (c.element_at.ensures.answer, c.element_at.ensures.buffer)).0; buffer = (answers-as _ _ (ap (element_at c.args.s.now) at ∙ number-place c.args.s.now k.0 k.1 c.args.k some) (c.element_at.ensures.answer, c.element_at.ensures.buffer)).1 }
