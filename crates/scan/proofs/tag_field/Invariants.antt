-- Invariant: the bytes counted, with those that are left, are those of the whole.
use Rattle.scan.proofs.TagLaws.{CountedTo}
use Prim.Native.Nat.{◌-◌}
use lib.ListN.{length}
use Rattle.scan.proofs.tag_field.Given as goal

abbrev pub invariant-loop-next : goal.invariant-loop-next
invariant-loop-next l = CountedTo l.t l.at l.size l.i

abbrev pub decreases-loop-next : goal.decreases-loop-next
decreases-loop-next l = length l.t - l.i
