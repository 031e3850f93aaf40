use native.Mathlib.Omega.{arith}
use mathlib.Core.Path.{refl}
use Rattle.text.proofs.DecimalLaws.{decimal-most}
use Rattle.print.proofs.DecimalLaws.{long-one, long-pair, long-three, long-whole, long-four}
use Rattle.print.proofs.digit_count.Goals as goal

pub loop-rest-init : goal.loop-rest-init
loop-rest-init c = (omega arith, refl)

pub overflow_add-count : goal.overflow_add-count
overflow_add-count c = omega (arith, c.loop-rest.invariant.1, decimal-most c.args.n)

pub loop-rest-preserved : goal.loop-rest-preserved
loop-rest-preserved c = (omega (arith, c.loop-rest.invariant.0), omega (arith, c.loop-rest.invariant.1, long-four c.loop-rest.rest (omega (arith, c.loop-rest.invariant.0)) c.loop-rest-test.true))

pub returns-then-rest-lt10 : goal.returns-then-rest-lt10
returns-then-rest-lt10 c = omega (arith, c.loop-rest.invariant.1, long-one c.loop-rest.rest c.if-rest-lt10.true)

pub overflow_add-result : goal.overflow_add-result
overflow_add-result c = omega (arith, c.loop-rest.invariant.1, decimal-most c.args.n)

pub returns-then-rest-lt100 : goal.returns-then-rest-lt100
returns-then-rest-lt100 c = omega (arith, c.loop-rest.invariant.1, long-pair c.loop-rest.rest c.if-rest-lt100.true c.if-rest-lt10.false)

pub overflow_add-result-then-rest-lt1000 : goal.overflow_add-result-then-rest-lt1000
overflow_add-result-then-rest-lt1000 c = omega (arith, c.loop-rest.invariant.1, decimal-most c.args.n)

pub returns-then-rest-lt1000 : goal.returns-then-rest-lt1000
returns-then-rest-lt1000 c = omega (arith, c.loop-rest.invariant.1, long-three c.loop-rest.rest c.if-rest-lt1000.true c.if-rest-lt100.false)

pub overflow_add-result-2 : goal.overflow_add-result-2
overflow_add-result-2 c = omega (arith, c.loop-rest.invariant.1, decimal-most c.args.n)

pub returns : goal.returns
returns c = omega (arith, c.loop-rest.invariant.1, long-whole c.loop-rest.rest c.loop-rest-test.false c.if-rest-lt1000.false)
