-- Invariant: the bytes stored, with those that are left, are those of the whole.
use Rattle.scan.proofs.TagLaws.{StoredTo}
use Prim.Native.Nat.{◌-◌}
use lib.ListN.{length}
use Rattle.scan.proofs.store_tag.Given as goal

abbrev pub invariant-loop-b : goal.invariant-loop-b
invariant-loop-b l = StoredTo l.t l.initial.out l.out l.at l.to l.i

abbrev pub decreases-loop-b : goal.decreases-loop-b
decreases-loop-b l = length l.t - l.i
