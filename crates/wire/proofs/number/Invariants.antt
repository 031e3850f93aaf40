-- Invariant: `n` is the number in the bytes passed.
use mathlib.Core.Path.{◌≡◌}
use Rattle.wire.specs.Numbers.{number_at}
use Rattle.wire.proofs.number.Given as goal

abbrev pub invariant-loop-b : goal.invariant-loop-b
invariant-loop-b l = l.n ≡ number_at l.s l.at l.b-index
