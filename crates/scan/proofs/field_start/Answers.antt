use native.Mathlib.Omega.{arith}
use Rattle.scan.proofs.WalkLaws.{field-inside}
use Rattle.scan.proofs.AnswerLaws.{start-first, start-end, start-turn, start-done}
use Rattle.scan.proofs.field_start.Goals as goal

pub loop-init : goal.loop-init
loop-init c = start-first _ _ _ c.requires

pub returns-then-t-next : goal.returns-then-t-next
returns-then-t-next c = start-end _ _ _ c.loop.counter c.loop.invariant c.if-t-next.true

pub overflow_add-next : goal.overflow_add-next
overflow_add-next c = omega (arith, c.field_end-next.ensures, field-inside c.args.t.now c.loop.next c.if-t-next.false)

pub loop-preserved : goal.loop-preserved
loop-preserved c = start-turn _ _ _ c.loop.invariant c.if-t-next.false c.loop-test.true c.field_end-next.ensures (omega (arith, c.field_end-next.ensures, field-inside c.args.t.now c.loop.next c.if-t-next.false))

pub returns : goal.returns
returns c = start-done _ _ _ c.loop.invariant (omega (arith, c.loop-test.false))
