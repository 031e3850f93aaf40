use native.Mathlib.Omega.{arith}
use Rattle.traverse.proofs.LoopLaws.{group-inside, group-start, group-first, group-on, group-done, left-pace}
use Rattle.traverse.proofs.put_group.Goals as goal

pub short_number-elements-requires : goal.short_number-elements-requires
short_number-elements-requires g c = (group-inside (g.W.ElementWriter.of_element c.args.writer) c.args.w.widths c.args.kind c.requires.ready, c.args.w.narrow.count)

pub overflow_add-moved : goal.overflow_add-moved
overflow_add-moved g c = omega (arith, group-inside (g.W.ElementWriter.of_element c.args.writer) c.args.w.widths c.args.kind c.requires.ready, c.requires.ready.small)

pub loop-i-init : goal.loop-i-init
loop-i-init g c = group-start (g.W.ElementWriter.of_element c.args.writer) c.args.w.widths c.args.kind c.short_number-elements.ensures c.requires.ready

pub put_element-moved-requires-clause-ready : goal.put_element-moved-requires-clause-ready
put_element-moved-requires-clause-ready g c = group-first (g.W.ElementWriter.of_element c.args.writer) c.args.w.widths c.args.kind c.loop-i._i c.loop-i.invariant c.loop-i-test.true

pub loop-i-preserved : goal.loop-i-preserved
loop-i-preserved g c =
    let e = c.put_element-moved.ensures in
    group-on (g.W.ElementWriter.of_element c.args.writer) c.args.w.widths c.args.kind c.loop-i._i c.loop-i.invariant c.loop-i-test.true e.pace e.copies

pub returns : goal.returns
returns g c =
    record {
      copies = group-done (g.W.ElementWriter.of_element c.args.writer) c.args.w.widths c.args.kind c.loop-i._i c.loop-i.invariant c.loop-i-test.false;
      pace = left-pace c.loop-i.invariant;
    }
