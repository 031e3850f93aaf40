use Rattle.std.proofs.Common.{refl, arith}
use Rattle.report.proofs.RecordLaws.{row_first, row_next, rows_start}
use Rattle.report.proofs.records.say_rows.Goals as goal

pub loop-n-init : goal.loop-n-init
loop-n-init g c = (refl, rows_start c.args.p.now c.args.t.now c.record_count-count.ensures c.requires.rows_ahead)

pub say_record-at-requires : goal.say_record-at-requires
say_record-at-requires g c = row_first c.args.p.now c.args.t.now c.loop-n.at c.record_count-count.result c.loop-n.n c.loop-n-test.true c.loop-n.invariant.1

pub loop-n-preserved : goal.loop-n-preserved
loop-n-preserved g c = (omega (arith, c.loop-n.invariant.0), row_next c.args.p.now c.args.t.now c.loop-n.at c.record_count-count.result c.loop-n.n c.loop-n-test.true c.loop-n.invariant.1 c.say_record-at.ensures)
