-- Invariant: the pairs that are left, stored here, give the end result. Stored from the last to the first.
use mathlib.Core.Path.{◌≡◌}
use lib.Seq.{sets}
use lib.ListN.{length}
use Rattle.wire.specs.Imei.{packed}
use Rattle.command.proofs.put_packed.Given as goal

abbrev pub invariant-loop-i : goal.invariant-loop-i
invariant-loop-i l = (length l.out ≡ length l.initial.out) × (sets l.out l.at (packed l.i l.rest) ≡ sets l.initial.out l.at (packed l.w l.imei))
