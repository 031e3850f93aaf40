-- Invariant: the groups that are left, added to the elements so far, give the count of all.
use Rattle.walk.proofs.WalkLaws.{Counting}
use Rattle.walk.proofs.groups_at.Given as goal

abbrev pub invariant-loop-k : goal.invariant-loop-k
invariant-loop-k l = Counting l.w.widths l.s l.at l.elements l.next l.k
