use Rattle.std.proofs.Common.{arith}
use Rattle.say.proofs.LineLaws.{lines_next, lines-done, line-inside}
use Rattle.say.proofs.line_of.Goals as goal

pub overflow_add-at : goal.overflow_add-at
overflow_add-at c = omega (arith, line-inside c.loop.invariant c.line_length-at.ensures)

pub loop-preserved : goal.loop-preserved
loop-preserved c = lines_next c.loop.invariant c.line_length-at.ensures (omega arith)

pub overflow_add-end : goal.overflow_add-end
overflow_add-end c = omega (arith, line-inside c.loop.invariant c.line_length.ensures)

pub slice_bounds-result-end : goal.slice_bounds-result-end
slice_bounds-result-end c = omega (arith, line-inside c.loop.invariant c.line_length.ensures)

pub returns : goal.returns
returns c = lines-done c.loop.invariant c.line_length.ensures (omega arith)
