use Prim.Native.Nat.{suc}
use mathlib.Core.Path.{◌≡◌}
use lib.Seq.{sets}
use lib.ListN.{length}
use Rattle.print.proofs.DegreeLaws.{places}
use Rattle.print.proofs.put_places.Given as goal

abbrev pub invariant-loop-i : goal.invariant-loop-i
invariant-loop-i l = (length l.out ≡ length l.initial.out) × (sets l.out (suc l.to) (places l.i l.rest) ≡ sets l.initial.out (suc l.to) (places 7 l.n))
