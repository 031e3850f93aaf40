use mathlib.Core.Path.{sym, ◌∙◌}
use native.Mathlib.Omega.{arith}
use Rattle.scan.proofs.WalkLaws.{left-start, left-done, left-wrong, left-turn, left_less, or-ok, or-failed}
use Rattle.scan.proofs.elements_on.Goals as goal

pub loop-next-init : goal.loop-next-init
loop-next-init c = left-start _ _ c.requires

pub pass_element-requires : goal.pass_element-requires
pass_element-requires c = c.loop-next-test.true

pub returns-in_err-end : goal.returns-in_err-end
returns-in_err-end c = let k = or-failed c.in_err-end.was c.ok_or.ensures.value c.from_residual.ensures.1 in k.1 ∙ left-wrong _ _ c.loop-next.invariant c.loop-next-test.true (sym k.0 ∙ c.pass_element.ensures)

pub overflow_add-count : goal.overflow_add-count
overflow_add-count c = let h = left-turn _ _ c.loop-next.invariant c.loop-next-test.true (or-ok c.in_ok-end.was c.ok_or.ensures.ok_part c.pass_element.ensures) in omega (arith, h.few, h.inside)

pub loop-next-smaller : goal.loop-next-smaller
loop-next-smaller c = let h = left_less _ _ c.loop-next.invariant c.loop-next-test.true (or-ok c.in_ok-end.was c.ok_or.ensures.ok_part c.pass_element.ensures) in omega (arith, h, c.loop-next-test.true)

pub loop-next-preserved : goal.loop-next-preserved
loop-next-preserved c = left-turn _ _ c.loop-next.invariant c.loop-next-test.true (or-ok c.in_ok-end.was c.ok_or.ensures.ok_part c.pass_element.ensures)

pub returns : goal.returns
returns c = left-done _ _ c.loop-next.invariant (omega (arith, c.loop-next-test.false))
