-- Invariant: the bytes that are left, stored here, give the end result.
use Prim.Native.Nat.{◌+◌, ◌-◌}
use mathlib.Core.Path.{◌≡◌}
use lib.ListN.{length}
use lib.Seq.{sets}
use Rattle.wire.specs.Numbers.{le}
use Rattle.wire.proofs.put_le.Given as goal

abbrev pub invariant-loop-i : goal.invariant-loop-i
invariant-loop-i l = (length l.out ≡ length l.initial.out) × (sets l.out (l.at + l.i) (le (l.w - l.i) l.rest) ≡ sets l.initial.out l.at (le l.w l.n))
