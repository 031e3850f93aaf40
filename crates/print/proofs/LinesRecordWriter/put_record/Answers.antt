use native.Mathlib.Omega.{arith}
use Rattle.print.proofs.ElementLaws.{near}
use Rattle.print.proofs.LineLaws.{head-inside, groups-inside, groups-ready, line-pace, line-copied}
use Rattle.print.proofs.LinesRecordWriter.put_record.Goals as goal

pub put_head-first-requires : goal.put_head-first-requires
put_head-first-requires c = (head-inside c.args.w.widths c.requires.ready, omega (arith, near c.requires.ready))

pub overflow_add-at : goal.overflow_add-at
overflow_add-at c = omega (arith, groups-inside c.args.w.widths c.requires.ready, c.fixed_size.ensures, c.requires.ready.small)

pub put_groups-moved-requires-clause-ready : goal.put_groups-moved-requires-clause-ready
put_groups-moved-requires-clause-ready c = rw c.fixed_size.ensures (groups-ready c.args.w.widths c.requires.ready c.put_head-first.ensures)

pub overflow_add-end : goal.overflow_add-end
overflow_add-end c =
    let p = line-pace c.args.w.widths c.requires.ready c.put_head-first.ensures (rw c.fixed_size.ensures at c.put_groups-moved.ensures.pace) in
    omega (arith, p.inside, p.ahead, c.requires.ready.behind, c.requires.ready.small)

pub store_byte-requires : goal.store_byte-requires
store_byte-requires c = tt

pub returns : goal.returns
returns c =
    let groups = c.put_groups-moved.ensures in
    record {
      copies = line-copied c.args.w.widths c.requires.ready c.put_head-first.ensures (rw c.fixed_size.ensures at groups.copies) c.store_byte.ensures;
      pace = line-pace c.args.w.widths c.requires.ready c.put_head-first.ensures (rw c.fixed_size.ensures at groups.pace);
    }
