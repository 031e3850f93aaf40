use mathlib.Core.Path.{sym, subst}
use Rattle.avl.specs.RecordReader.{plain_record}
use Rattle.wire.specs.Reading.{repeat}
use Rattle.avl.specs.declared.Widths.{Widths}
use Rattle.traverse.specs.Copying.{Ready}
use Rattle.form.proofs.FieldLaws.{form-copied}
use Rattle.form.proofs.EntriesFieldWriter.put_field.Goals as goal

pub put_records-requires-clause-ready : goal.put_records-requires-clause-ready
put_records-requires-clause-ready c = subst (λ (w : Widths). Ready (repeat c.args.count (plain_record w)) c.args.s.now 0 5) (sym c.widths_of.ensures) c.requires.ready

pub returns : goal.returns
returns c = form-copied c.args.codec c.args.count c.widths_of.ensures c.store_bytes.ensures.buffer c.put_records.ensures.copies
