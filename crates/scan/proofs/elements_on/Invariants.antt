use lib.ListN.{length}
use Prim.Native.Nat.{◌+◌, ◌-◌}
use Rattle.scan.proofs.WalkLaws.{ElementsLeft}
use Rattle.scan.proofs.elements_on.Given as goal

abbrev pub invariant-loop-next : goal.invariant-loop-next
invariant-loop-next l = ElementsLeft l.t l.at l.next l.tags l.count

abbrev pub decreases-loop-next : goal.decreases-loop-next
decreases-loop-next l = length l.t + 1 - l.next
