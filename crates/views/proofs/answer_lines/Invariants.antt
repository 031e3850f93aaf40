-- Invariant: what is held starts no later than the place in the text.
use Rattle.std.proofs.Common.{◌≤◌}
use Rattle.views.proofs.answer_lines.Given as goal

abbrev pub invariant-loop-i : goal.invariant-loop-i
invariant-loop-i g l = l.done.held ≤ l.i
