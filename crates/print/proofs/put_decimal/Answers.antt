use native.Mathlib.Omega.{arith}
use mathlib.Core.Path.{refl, sym, ◌∙◌}
use lib.ListN.{length-set}
use Rattle.print.proofs.DecimalLaws.{long-one, long-pair, long-two, decimal-left, decimal-pair, decimal-single}
use Rattle.print.proofs.put_decimal.Goals as goal

pub loop-rest-init : goal.loop-rest-init
loop-rest-init c = (omega arith, omega (arith, c.requires.0), omega arith, refl, refl)

pub overflow_sub-next : goal.overflow_sub-next
overflow_sub-next c = omega (arith, c.loop-rest.invariant.1, long-two c.loop-rest.rest (omega (arith, c.loop-rest.invariant.0)) c.loop-rest-test.true)

pub overflow_add-out-in-loop-rest : goal.overflow_add-out-in-loop-rest
overflow_add-out-in-loop-rest c = omega (arith, c.loop-rest.invariant.2, c.requires.1)

pub bounds-out-next : goal.bounds-out-next
bounds-out-next c = omega (arith, c.loop-rest.invariant.1, c.loop-rest.invariant.2, c.loop-rest.invariant.3, c.requires.1, long-two c.loop-rest.rest (omega (arith, c.loop-rest.invariant.0)) c.loop-rest-test.true)

pub bounds-out-next-in-loop-rest : goal.bounds-out-next-in-loop-rest
bounds-out-next-in-loop-rest c = simp length-set (omega (arith, c.loop-rest.invariant.1, c.loop-rest.invariant.2, c.loop-rest.invariant.3, c.requires.1, long-two c.loop-rest.rest (omega (arith, c.loop-rest.invariant.0)) c.loop-rest-test.true))

pub loop-rest-preserved : goal.loop-rest-preserved
loop-rest-preserved c = let d = decimal-left c.loop-rest.out c.args.to c.loop-rest.next c.loop-rest.rest (omega (arith, c.loop-rest.invariant.0)) c.loop-rest-test.true c.loop-rest.invariant.1 in
    (omega (arith, c.loop-rest.invariant.0), d.0, omega (arith, c.loop-rest.invariant.2), simp length-set c.loop-rest.invariant.3, sym d.1 ∙ c.loop-rest.invariant.4)

pub bounds-out-to : goal.bounds-out-to
bounds-out-to c = omega (arith, c.loop-rest.invariant.1, c.loop-rest.invariant.2, c.loop-rest.invariant.3, c.requires.1, long-pair c.loop-rest.rest c.loop-rest-test.false c.if-rest-ge10.true)

pub bounds-out-to-then-rest-ge10 : goal.bounds-out-to-then-rest-ge10
bounds-out-to-then-rest-ge10 c = simp length-set (omega (arith, c.loop-rest.invariant.1, c.loop-rest.invariant.2, c.loop-rest.invariant.3, c.requires.1, long-pair c.loop-rest.rest c.loop-rest-test.false c.if-rest-ge10.true))

pub bounds-out-to-else-rest-ge10 : goal.bounds-out-to-else-rest-ge10
bounds-out-to-else-rest-ge10 c = omega (arith, c.loop-rest.invariant.1, c.loop-rest.invariant.2, c.loop-rest.invariant.3, c.requires.1, long-one c.loop-rest.rest c.if-rest-ge10.false)

pub shape_of-out-then-rest-ge10 : goal.shape_of-out-then-rest-ge10
shape_of-out-then-rest-ge10 c = simp length-set c.loop-rest.invariant.3

pub returns-then-rest-ge10 : goal.returns-then-rest-ge10
returns-then-rest-ge10 c = sym (decimal-pair c.loop-rest.out c.args.to c.loop-rest.rest c.loop-rest-test.false c.if-rest-ge10.true) ∙ c.loop-rest.invariant.4

pub shape_of-out-else-rest-ge10 : goal.shape_of-out-else-rest-ge10
shape_of-out-else-rest-ge10 c = simp length-set c.loop-rest.invariant.3

pub returns-else-rest-ge10 : goal.returns-else-rest-ge10
returns-else-rest-ge10 c = sym (decimal-single c.loop-rest.out c.args.to c.loop-rest.rest c.if-rest-ge10.false) ∙ c.loop-rest.invariant.4
