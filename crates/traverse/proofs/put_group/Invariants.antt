use Rattle.traverse.proofs.LoopLaws.{GroupLeft}
use Rattle.traverse.proofs.put_group.Given as goal

abbrev pub invariant-loop-i : goal.invariant-loop-i
invariant-loop-i g l =
    let numbers = g.W.Item.Number.numbers in
    GroupLeft (g.W.ElementWriter.of_element l.writer) l.w.widths l.kind l.s l.at l.to (numbers l.initial.out) l.moved.from l.moved.to (numbers l.out) l._i
