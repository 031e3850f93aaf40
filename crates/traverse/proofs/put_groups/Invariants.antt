use Rattle.traverse.proofs.LoopLaws.{GroupsLeft}
use Rattle.traverse.proofs.put_groups.Given as goal

abbrev pub invariant-loop-k : goal.invariant-loop-k
invariant-loop-k g l =
    let e = g.W.ElementWriter in
    GroupsLeft (e.of_element l.writer) l.w.widths l.s l.at l.to (g.W.Item.Number.numbers l.initial.out) l.moved.from l.moved.to (g.W.Item.Number.numbers l.out) l.k
