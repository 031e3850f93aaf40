use Rattle.contents.proofs.RecordLaws.{groups-inside, groups-ready, counted-bytes, counted-elements, few, record-copied, record-pace}
use native.Mathlib.Omega.{arith}
use Rattle.contents.proofs.ListingRecordWriter.put_record.Goals as goal

pub overflow_add-first : goal.overflow_add-first
overflow_add-first c = omega (arith, c.requires.ready.behind, c.requires.ready.inside, c.requires.ready.small)

pub overflow_add-at : goal.overflow_add-at
overflow_add-at c = omega (arith, c.fixed_size.ensures, groups-inside c.args.w.widths c.requires.ready, c.requires.ready.small)

pub put_groups-moved-requires : goal.put_groups-moved-requires
put_groups-moved-requires c = record { taken = c.requires.taken; ready = rw c.fixed_size.ensures (groups-ready c.args.w.widths c.requires.ready) }

pub overflow_sub-moved : goal.overflow_sub-moved
overflow_sub-moved c = (counted-bytes c.args.w.widths c.requires.ready c.args.self.base (rw c.fixed_size.ensures at c.put_groups-moved.ensures.copies)).0

pub overflow_sub-moved-2 : goal.overflow_sub-moved-2
overflow_sub-moved-2 c = (counted-elements c.args.w.widths c.requires.ready c.args.self.base (rw c.fixed_size.ensures at c.put_groups-moved.ensures.copies)).0

pub put_head-requires : goal.put_head-requires
put_head-requires c = record { s_bound = c.requires.taken; ready = c.requires.ready; size_bound = few c.args.w.widths c.requires.ready c.args.self.base (rw c.fixed_size.ensures at c.put_groups-moved.ensures.copies) c.args.w.narrow c.requires.taken }

pub returns : goal.returns
returns c =
    let groups = c.put_groups-moved.ensures in
    record {
      copies = record-copied c.args.w.widths c.requires.ready c.args.self.base (rw c.fixed_size.ensures at groups.copies) c.put_head.ensures;
      pace = record-pace c.args.w.widths c.requires.ready (rw c.fixed_size.ensures at groups.pace);
    }
