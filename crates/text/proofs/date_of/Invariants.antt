-- Invariant: the years passed and the days left make up the days.
use Rattle.text.specs.Calendar.{years_long}
use Rattle.std.proofs.Common.{◌≡◌, ◌+◌, ◌-◌, ◌≤◌}
use Rattle.text.proofs.date_of.Given as goal

abbrev pub invariant-loop-rest : goal.invariant-loop-rest
invariant-loop-rest l = (1970 ≤ l.year) × (years_long (l.year - 1970) + l.rest ≡ l.days)

abbrev pub decreases-loop-rest : goal.decreases-loop-rest
decreases-loop-rest l = l.rest
