use lib.Dec.{lit≤}
use Rattle.wire.proofs.Widths.{get_d-bytes}
use Rattle.traverse.proofs.FieldLaws.{field-ready, room-inside, writes-field}
use Rattle.traverse.proofs.write_field.Goals as goal

pub write_records-requires-clause-ready : goal.write_records-requires-clause-ready
write_records-requires-clause-ready g c = field-ready c.args.d.now 5 (lit≤ tt) (get_d-bytes c.args.d.now (λ k. (c.type_inv.d k).fits)) c.requires.field

pub write_records-requires-clause-enough : goal.write_records-requires-clause-enough
write_records-requires-clause-enough g c = room-inside (g.W.FieldWriter.of_field c.args.writer) c.args.d.now c.requires.field c.requires.enough

pub returns : goal.returns
returns g c = writes-field (g.W.FieldWriter.of_field c.args.writer) c.args.d.now c.write_records.ensures
