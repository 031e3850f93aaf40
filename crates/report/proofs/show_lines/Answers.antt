use native.Mathlib.Omega.{arith}
use mathlib.Core.Path.{refl}
use Rattle.report.proofs.BillingLaws.{lines-begin, lines_end, line-inside, part-inside, lines-turn}
use Rattle.report.proofs.show_lines.Goals as goal

pub loop-at-init : goal.loop-at-init
loop-at-init g c = (refl, lines-begin c.args.s.now)

pub overflow_add-end : goal.overflow_add-end
overflow_add-end g c = omega (arith, (line-inside c.loop-at.invariant.1 c.loop-at-test.true c.line_length.ensures).1)

pub slice_bounds-show_line-end : goal.slice_bounds-show_line-end
slice_bounds-show_line-end g c = (line-inside c.loop-at.invariant.1 c.loop-at-test.true c.line_length.ensures).1

pub show_line-number-requires : goal.show_line-number-requires
show_line-number-requires g c = omega (arith, part-inside c.loop-at.invariant.1 c.loop-at-test.true c.line_length.ensures)

pub overflow_add-k : goal.overflow_add-k
overflow_add-k g c = omega (arith, c.loop-at.invariant.1.few, c.loop-at-test.true)

pub loop-at-smaller : goal.loop-at-smaller
loop-at-smaller g c = let u = line-inside c.loop-at.invariant.1 c.loop-at-test.true c.line_length.ensures in omega (arith, u.0, u.1, c.loop-at-test.true)

pub loop-at-preserved : goal.loop-at-preserved
loop-at-preserved g c = (omega (arith, c.show_line-number.auto.bytes), lines-turn c.loop-at.invariant.1 c.loop-at-test.true c.line_length.ensures c.show_line-number.ensures c.earlier-first.ensures)

pub returns : goal.returns
returns g c = lines_end c.loop-at.invariant.1 c.loop-at-test.false
