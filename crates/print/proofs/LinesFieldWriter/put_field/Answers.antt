use lib.Dec.{lit≤}
use mathlib.Core.Path.{sym, subst}
use Rattle.wire.specs.Reading.{repeat}
use Rattle.avl.specs.declared.Widths.{Widths}
use Rattle.avl.specs.RecordReader.{plain_record}
use Rattle.traverse.specs.Copying.{Ready}
use Rattle.traverse.proofs.CopyLaws.{ready-nearer}
use Rattle.print.proofs.WholeLaws.{lines_copied}
use Rattle.print.proofs.LinesFieldWriter.put_field.Goals as goal

pub put_records-requires-clause-ready : goal.put_records-requires-clause-ready
put_records-requires-clause-ready c =
    subst (λ (w : Widths). Ready (repeat c.args.count (plain_record w)) c.args.s.now 0 0) (sym c.widths_of.ensures) (ready-nearer (lit≤ tt) c.requires.ready)

pub returns : goal.returns
returns c = lines_copied c.args.codec c.args.count c.widths_of.ensures c.put_records.ensures.copies
