use Rattle.rebuild.proofs.RunLaws.{record-room, record-goes}
use Rattle.tlv.specs.Decoding.{fixed_of}
use native.Mathlib.Omega.{arith}
use Rattle.rebuild.proofs.put_record.Goals as goal

pub put_groups-groups-requires-clause-from_bound : goal.put_groups-groups-requires-clause-from_bound
put_groups-groups-requires-clause-from_bound c = record-room c.args.w.widths c.args.f.now c.args.at (fixed_of c.entry_body.result.now) c.args.to c.next_at-from.ensures c.put_fixed-a1.ensures.place c.requires.at_bound

pub overflow_add-a1 : goal.overflow_add-a1
overflow_add-a1 c = omega (arith, record-room c.args.w.widths c.args.f.now c.args.at (fixed_of c.entry_body.result.now) c.args.to c.next_at-from.ensures c.put_fixed-a1.ensures.place c.requires.at_bound)

pub returns : goal.returns
returns c = record-goes c.args.w.widths c.args.f.now c.args.at c.next_at-from.ensures c.entry_body.ensures c.put_fixed-a1.ensures c.put_groups-groups.ensures c.store_be.ensures.stored c.store_be.ensures.value
