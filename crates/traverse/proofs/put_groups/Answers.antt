use Prim.Native.Nat.{ℕ, ◌<◌}
use native.Mathlib.Omega.{arith}
use mathlib.Core.Path.{◌≡◌, ◌∙◌}
use lib.ListN.{length, get_or}
use Rattle.avl.specs.declared.Widths.{Widths}
use Rattle.avl.specs.Codecs.{kinds, all_kinds}
use Rattle.walk.proofs.KindLaws.{kinds-few, kind-range, kind-known}
use Rattle.traverse.proofs.LoopLaws.{left-start, groups-first, groups-on, groups-done, left-pace}
use Rattle.traverse.proofs.put_groups.Goals as goal

-- the kind of the group whose turn it is
turn : (w : Widths) {k n kind : ℕ} → k < n → n ≡ length (kinds w) → kind ≡ get_or all_kinds k 0 → (k < length (kinds w)) × (kind ≡ get_or (kinds w) k 0)
turn w {k} h all e = let below : k < length (kinds w) = omega (arith, h, all) in (below, e ∙ kind-known w k below)

pub loop-k-init : goal.loop-k-init
loop-k-init g c = left-start c.requires.ready

pub kind_at-requires : goal.kind_at-requires
kind_at-requires g c = omega (arith, kinds-few c.args.w.widths, c.kind_count-n.ensures)

pub put_group-moved-requires-clause-le_kind : goal.put_group-moved-requires-clause-le_kind
put_group-moved-requires-clause-le_kind g c =
    let d = turn c.args.w.widths c.loop-k-test.true c.kind_count-n.ensures c.kind_at.ensures in
    kind-range c.args.w.widths c.loop-k.k d.0 d.1

pub put_group-moved-requires-clause-ready : goal.put_group-moved-requires-clause-ready
put_group-moved-requires-clause-ready g c =
    let d = turn c.args.w.widths c.loop-k-test.true c.kind_count-n.ensures c.kind_at.ensures in
    groups-first (g.W.ElementWriter.of_element c.args.writer) c.args.w.widths c.loop-k.k c.loop-k.invariant d.0 d.1

pub loop-k-preserved : goal.loop-k-preserved
loop-k-preserved g c =
    let d = turn c.args.w.widths c.loop-k-test.true c.kind_count-n.ensures c.kind_at.ensures in
    let e = c.put_group-moved.ensures in
    groups-on (g.W.ElementWriter.of_element c.args.writer) c.args.w.widths c.loop-k.k c.loop-k.invariant d.0 d.1 e.pace e.copies

pub returns : goal.returns
returns g c =
    record {
      copies = groups-done (g.W.ElementWriter.of_element c.args.writer) c.args.w.widths c.loop-k.k c.loop-k.invariant (omega (arith, c.loop-k-test.false, c.kind_count-n.ensures));
      pace = left-pace c.loop-k.invariant;
    }
