use Rattle.element.proofs.SearchLaws.{Searching}
use Rattle.element.specs.Elements.{nth}
use Prim.Native.Nat.{◌-◌}
use Rattle.element.proofs.nth_variable.Given as goal

abbrev pub invariant-loop-i : goal.invariant-loop-i
invariant-loop-i l = Searching l.w.widths 9 l.part l.at (λ j. nth (l.n - j)) l.next l._i
