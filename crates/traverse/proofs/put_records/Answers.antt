use Rattle.traverse.proofs.LoopLaws.{records-start, records-first, records-on, records-done, left-pace}
use Rattle.traverse.proofs.put_records.Goals as goal

pub loop-i-init : goal.loop-i-init
loop-i-init g c = records-start (g.W.RecordWriter.of_record c.args.writer c.args.w.widths) c.args.w.widths c.args.count c.requires.ready

pub put_record-moved-requires-clause-ready : goal.put_record-moved-requires-clause-ready
put_record-moved-requires-clause-ready g c =
    records-first (g.W.RecordWriter.of_record c.args.writer c.args.w.widths) c.args.w.widths c.args.count c.loop-i._i c.loop-i.invariant c.loop-i-test.true

pub loop-i-preserved : goal.loop-i-preserved
loop-i-preserved g c =
    let e = c.put_record-moved.ensures in
    records-on (g.W.RecordWriter.of_record c.args.writer c.args.w.widths) c.args.w.widths c.args.count c.loop-i._i c.loop-i.invariant c.loop-i-test.true e.pace e.copies

pub returns : goal.returns
returns g c =
    record {
      copies = records-done (g.W.RecordWriter.of_record c.args.writer c.args.w.widths) c.args.w.widths c.args.count c.loop-i._i c.loop-i.invariant c.loop-i-test.false;
      pace = left-pace c.loop-i.invariant;
    }
