use mathlib.Core.Path.{◌≡◌}
use lib.ListN.{length}
use lib.Seq.{sets}
use Rattle.wire.specs.Numbers.{be}
use Rattle.store.proofs.cut_be.Given as goal

abbrev pub invariant-loop-i : goal.invariant-loop-i
invariant-loop-i l = (length l.out ≡ length l.initial.out) × (sets l.out l.to (be l.i l.rest) ≡ sets l.initial.out l.to (be l.w l.n))
