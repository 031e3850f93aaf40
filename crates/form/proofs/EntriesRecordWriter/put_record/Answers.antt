use native.Mathlib.Omega.{arith}
use Rattle.form.proofs.RecordLaws.{record-fixed, record-groups, record-copied, record-pace}
use Rattle.form.proofs.EntriesRecordWriter.put_record.Goals as goal

pub put_fixed-fixed-requires : goal.put_fixed-fixed-requires
put_fixed-fixed-requires c = record { ready = record-fixed c.args.w.widths c.requires.ready }

pub overflow_add-fixed : goal.overflow_add-fixed
overflow_add-fixed c = let g = record-groups c.args.w.widths c.requires.ready c.put_fixed-fixed.ensures in omega (arith, g.inside, g.small)

pub put_groups-requires-clause-ready : goal.put_groups-requires-clause-ready
put_groups-requires-clause-ready c = record-groups c.args.w.widths c.requires.ready c.put_fixed-fixed.ensures

pub returns : goal.returns
returns c =
    let e = c.put_groups.ensures in
    record {
      copies = record-copied c.args.w.widths c.requires.ready c.put_fixed-fixed.ensures e.copies;
      pace = record-pace c.args.w.widths c.requires.ready c.put_fixed-fixed.ensures e.pace;
    }
