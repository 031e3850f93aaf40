use Rattle.element.proofs.SearchLaws.{Ahead}
use Rattle.element.specs.Search.{sought}
use Prim.Native.Nat.{◌≤◌}
use Rattle.element.proofs.find_id.Given as goal

abbrev pub invariant-loop-k : goal.invariant-loop-k
invariant-loop-k l = (l.before ≤ l.next) × Ahead l.w.widths l.part (sought l.id 0) (sought l.id l.before) l.k l.next
