use Rattle.element.proofs.SearchLaws.{Ahead}
use Rattle.element.specs.Elements.{nth}
use Rattle.element.proofs.nth_element.Given as goal

abbrev pub invariant-loop-k : goal.invariant-loop-k
invariant-loop-k l = Ahead l.w.widths l.part (nth l.n) (nth l.left) l.k l.next
