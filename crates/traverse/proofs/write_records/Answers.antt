use native.Mathlib.Omega.{arith}
use Rattle.traverse.proofs.FieldLaws.{writes-room, writes_short, writes-done}
use Rattle.traverse.proofs.write_records.Goals as goal

pub returns-then-room-out : goal.returns-then-room-out
returns-then-room-out g c =
    let numbers = g.W.Item.Number in
    let long = numbers.same_length c.args.out.now in
    writes-room c.args.codec c.args.count (g.W.FieldWriter.of_field c.args.writer) c.args.s.now c.requires.enough (omega (arith, c.if-room-out.true, long)) c.put_field-done.ensures

pub returns-then-out-size : goal.returns-then-out-size
returns-then-out-size g c =
    rw c.of.ensures (writes_short c.args.codec c.args.count (g.W.FieldWriter.of_field c.args.writer) c.args.s.now g.W.Item.Number.numbers g.W.Item.Number.same_length c.put_field-size.ensures c.put_field-size.auto.out c.if-out-size.true)

pub returns : goal.returns
returns g c =
    writes-done c.args.codec c.args.count (g.W.FieldWriter.of_field c.args.writer) c.args.s.now g.W.Item.Number.numbers g.W.Item.Number.same_length c.put_field-size.ensures c.put_field-size.auto.out c.if-out-size.false c.put_field.ensures
