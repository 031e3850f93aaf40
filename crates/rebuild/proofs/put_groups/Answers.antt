use Rattle.rebuild.proofs.RunLaws.{grouping-room, grouping-fits, grouping-on, grouping-done}
use Rattle.rebuild.proofs.Bounds.{few}
use Rattle.walk.proofs.KindLaws.{kinds-few, kind-known}
use Rattle.avl.specs.Codecs.{kinds}
use lib.ListN.{length}
use mathlib.Core.Path.{◌∙◌}
use native.Mathlib.Omega.{arith}
use Prim.Native.Nat.{◌^◌, ◌<◌}
use Rattle.rebuild.proofs.put_groups.Goals as goal

pub kind_at-requires : goal.kind_at-requires
kind_at-requires c = omega (arith, kinds-few c.args.w.widths, c.kind_count-k-end.ensures)

pub put_group-group-requires-clause-from_bound : goal.put_group-group-requires-clause-from_bound
put_group-group-requires-clause-from_bound c = let w = c.args.w.widths in
    let h : c.loop-k.k < length (kinds w) = omega (arith, c.kind_count-k-end.ensures) in
    grouping-room w c.args.f.now c.args.from c.loop-k.invariant h (c.kind_at.ensures ∙ kind-known w c.loop-k.k h) (2 ^ 40) c.requires.from_bound

pub overflow_add-count : goal.overflow_add-count
overflow_add-count c = let w = c.args.w.widths in
    let h : c.loop-k.k < length (kinds w) = omega (arith, c.kind_count-k-end.ensures) in
    omega (arith, grouping-fits w c.args.f.now c.args.from c.loop-k.invariant h (c.kind_at.ensures ∙ kind-known w c.loop-k.k h) c.put_group-group.ensures.told, few (kinds w) c.args.f.now c.args.from c.requires.f_len_bound)

pub loop-k-preserved : goal.loop-k-preserved
loop-k-preserved c = let w = c.args.w.widths in
    let h : c.loop-k.k < length (kinds w) = omega (arith, c.kind_count-k-end.ensures) in
    grouping-on w c.args.f.now c.args.from c.loop-k.invariant h (c.kind_at.ensures ∙ kind-known w c.loop-k.k h) c.put_group-group.ensures

pub returns : goal.returns
returns c = grouping-done c.args.w.widths c.args.f.now c.args.from c.loop-k.invariant (omega (arith, c.kind_count-k-end.ensures))
