-- Invariant: the months passed and the days left make up the days.
use Rattle.text.specs.Calendar.{months_long}
use Rattle.std.proofs.Common.{◌≡◌, ◌+◌, ◌-◌}
use Rattle.text.proofs.within_year.Given as goal

abbrev pub invariant-loop-month : goal.invariant-loop-month
invariant-loop-month l = months_long l.year (l.month - 1) + l.left ≡ l.rest
