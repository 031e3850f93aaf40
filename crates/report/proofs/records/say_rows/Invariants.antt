-- Invariant: a record was said in each turn, and the rows that are left stand from here on.
use Rattle.std.proofs.Common.{◌≡◌, ◌-◌}
use Rattle.contents.specs.Rows.{RowsAhead}
use Rattle.report.proofs.records.say_rows.Given as goal

abbrev pub invariant-loop-n : goal.invariant-loop-n
invariant-loop-n g l = (l.said ≡ l.n) × RowsAhead l.p l.t l.at (l.count - l.n)
