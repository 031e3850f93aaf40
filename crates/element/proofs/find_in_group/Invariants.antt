use Rattle.element.specs.Search.{sought}
use Rattle.element.proofs.SearchLaws.{Searching}
use Prim.Native.Nat.{◌-◌, ◌≤◌}
use Rattle.element.proofs.find_in_group.Given as goal

abbrev pub invariant-loop-left : goal.invariant-loop-left
invariant-loop-left l = (l.left ≤ l.count) × Searching l.w.widths l.kind l.part l.at (sought l.id) l.next (l.count - l.left)
