use Rattle.rebuild.proofs.RunLaws.{recording-room, recording_on, recording-done}
use Prim.Native.Nat.{◌^◌}
use Rattle.rebuild.proofs.put_records.Goals as goal

pub put_record-record-requires-clause-at_bound : goal.put_record-record-requires-clause-at_bound
put_record-record-requires-clause-at_bound c = recording-room c.args.w.widths c.args.f.now c.args.from c.loop-from.invariant (2 ^ 40) c.loop-from-test.true c.requires.from_bound

pub loop-from-preserved : goal.loop-from-preserved
loop-from-preserved c = recording_on c.args.w.widths c.args.f.now c.args.from c.loop-from.invariant c.loop-from-test.true c.put_record-record.ensures c.next_record-from-in-loop-from.ensures

pub returns : goal.returns
returns c = recording-done c.args.w.widths c.args.f.now c.args.from c.loop-from.invariant c.loop-from-test.false
