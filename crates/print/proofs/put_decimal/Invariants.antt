use Prim.Native.Nat.{◌+◌, ◌≤◌}
use mathlib.Core.Path.{◌≡◌}
use lib.Seq.{sets}
use lib.ListN.{length}
use Rattle.text.specs.Decimal.{decimal}
use Rattle.print.proofs.put_decimal.Given as goal

abbrev pub invariant-loop-rest : goal.invariant-loop-rest
invariant-loop-rest l = (l.rest ≤ l.n) × (l.next ≡ l.to + length (decimal l.rest)) × (l.next ≤ l.to + l.count) × (length l.out ≡ length l.initial.out) × (sets l.out l.to (decimal l.rest) ≡ sets l.initial.out l.to (decimal l.n))

abbrev pub decreases-loop-rest : goal.decreases-loop-rest
decreases-loop-rest l = l.rest
