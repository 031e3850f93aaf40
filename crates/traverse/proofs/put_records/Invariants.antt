use Rattle.traverse.proofs.LoopLaws.{RecordsLeft}
use Rattle.traverse.proofs.put_records.Given as goal

abbrev pub invariant-loop-i : goal.invariant-loop-i
invariant-loop-i g l =
    let numbers = g.W.Item.Number.numbers in
    RecordsLeft (g.W.RecordWriter.of_record l.writer l.w.widths) l.w.widths l.count l.s l.to (numbers l.initial.out) l.moved.from l.moved.to (numbers l.out) l._i
