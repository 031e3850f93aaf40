-- Invariant: `n` is the number in the bytes passed, from the last down.
use Prim.Native.Nat.{◌+◌, ◌-◌}
use mathlib.Core.Path.{◌≡◌}
use Rattle.wire.specs.Numbers.{little_at}
use Rattle.wire.proofs.little.Given as goal

abbrev pub invariant-loop-i : goal.invariant-loop-i
invariant-loop-i l = l.n ≡ little_at l.s (l.at + l.i) (l.w - l.i)
