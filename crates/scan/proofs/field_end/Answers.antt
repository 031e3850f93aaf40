use mathlib.Core.Path.{refl}
use Rattle.scan.proofs.AnswerLaws.{end-comma, end-turn, end-done}
use Rattle.scan.proofs.field_end.Goals as goal

pub loop-i-init : goal.loop-i-init
loop-i-init c = (c.requires, refl)

pub returns-then-t-i-eq44 : goal.returns-then-t-i-eq44
returns-then-t-i-eq44 c = end-comma _ _ c.loop-i.invariant c.loop-i-test.true c.if-t-i-eq44.true

pub loop-i-preserved : goal.loop-i-preserved
loop-i-preserved c = end-turn _ _ c.loop-i.invariant c.loop-i-test.true c.if-t-i-eq44.false

pub returns : goal.returns
returns c = end-done _ _ c.loop-i.invariant c.loop-i-test.false
