-- Invariant: the lines that are left lead from here to the line asked for.
use Rattle.std.proofs.Common.{◌-◌}
use Rattle.say.proofs.LineLaws.{LinesLeft}
use Rattle.say.proofs.line_of.Given as goal

abbrev pub invariant-loop : goal.invariant-loop
invariant-loop l = LinesLeft l.s l.n l.at (l.n - l.counter)
