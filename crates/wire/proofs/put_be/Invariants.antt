-- Invariant: the bytes that are left, stored here, give the end result. Stored from the last to the first.
use mathlib.Core.Path.{◌≡◌}
use lib.Seq.{sets}
use lib.ListN.{length}
use Rattle.wire.specs.Numbers.{be}
use Rattle.wire.proofs.put_be.Given as goal

abbrev pub invariant-loop-i : goal.invariant-loop-i
invariant-loop-i l = (length l.out ≡ length l.initial.out) × (sets l.out l.at (be l.i l.rest) ≡ sets l.initial.out l.at (be l.w l.n))
