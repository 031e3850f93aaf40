use Rattle.contents.proofs.RecordLaws.{four-stored, fixed-inside, fixed-range, head-stored}
use native.Mathlib.Omega.{arith}
use Prim.Native.Nat.{◌+◌}
use Rattle.contents.proofs.put_head.Goals as goal

pub be64-requires : goal.be64-requires
be64-requires c = omega (arith, fixed-inside c.args.w.widths c.requires.ready)

pub overflow_add-to : goal.overflow_add-to
overflow_add-to c = omega (arith, c.requires.ready.behind, c.requires.ready.inside, c.requires.ready.small)

pub be64-requires-2 : goal.be64-requires-2
be64-requires-2 c = omega (arith, fixed-inside c.args.w.widths c.requires.ready)

pub overflow_add-to-2 : goal.overflow_add-to-2
overflow_add-to-2 c = omega (arith, c.requires.ready.behind, c.requires.ready.inside, c.requires.ready.small)

pub motion-requires : goal.motion-requires
motion-requires c = record { generation_in_bounds = fixed-inside c.args.w.widths c.requires.ready; at_bound = fixed-range c.args.w.widths c.requires.ready }

pub overflow_add-to-3 : goal.overflow_add-to-3
overflow_add-to-3 c = omega (arith, c.requires.ready.behind, c.requires.ready.inside, c.requires.ready.small)

pub overflow_add-base : goal.overflow_add-base
overflow_add-base c = omega (arith, c.requires.ready.inside, c.requires.s_bound)

pub extent-requires : goal.extent-requires
extent-requires c = record { event_in_bounds = omega (arith, fixed-inside c.args.w.widths c.requires.ready); start_bound = (omega (arith, c.requires.ready.inside, c.requires.s_bound), c.requires.size_bound.0, c.requires.size_bound.1) }

pub returns : goal.returns
returns c = head-stored c.args.w.widths c.requires.ready (c.args.base + c.args.at) c.args.size c.args.elements c.args.out.now
    (four-stored c.args.out.now c.args.to _ _ _ _ c.store_word.ensures c.be64.ensures c.store_word-2.ensures c.be64-2.ensures c.store_word-3.ensures c.motion.ensures c.store_word-4.ensures c.extent.ensures)
