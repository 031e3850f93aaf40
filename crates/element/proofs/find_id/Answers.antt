use Rattle.element.specs.Elements.{elements}
use Rattle.element.proofs.SearchLaws.{ahead-start, ahead-next, ahead_none, onward-group, onward-hit, onward-miss, onward-few, sought-passed, sought-end}
use Rattle.element.specs.Search.{sought}
use Rattle.walk.proofs.KindLaws.{kinds-few, kind-known, kind-range}
use Rattle.avl.specs.Codecs.{kinds}
use Rattle.wire.proofs.Widths.{get_d-bytes}
use lib.ListN.{length}
use mathlib.Core.Path.{◌∙◌}
use native.Mathlib.Omega.{arith}
use Prim.Native.Nat.{◌≤◌, ◌<◌}
use Rattle.element.proofs.find_id.Goals as goal

pub loop-k-init : goal.loop-k-init
loop-k-init c = (omega arith, ahead-start (sought c.args.id 0) c.fixed_size-next.ensures)

pub kind_at-requires : goal.kind_at-requires
kind_at-requires c = omega (arith, kinds-few c.args.w.widths, c.kind_count-k-end.ensures, c.loop-k-test.true)

pub find_in_group-requires : goal.find_in_group-requires
find_in_group-requires c = let w = c.args.w.widths in
    let k = c.loop-k.k in
    let h : k < length (kinds w) = omega (arith, c.loop-k-test.true, c.kind_count-k-end.ensures) in
    let range = kind-range w k h (c.kind_at.ensures ∙ kind-known w k h) in
    record { le_kind = range.0; kind_bound = range.1; readable_group = onward-group (ahead-next (sought c.args.id 0) c.loop-k.invariant.1 _ _ c.requires.readable.reads h c.kind_at.ensures); before_le_at = c.loop-k.invariant.0 }

pub returns-in-Hit : goal.returns-in-Hit
unfolding sought
returns-in-Hit c = let w = c.args.w.widths in
    let h : c.loop-k.k < length (kinds w) = omega (arith, c.loop-k-test.true, c.kind_count-k-end.ensures) in record { found = λ x n r. (onward-hit c.args.id c.loop-k.before (ahead-next (sought c.args.id 0) c.loop-k.invariant.1 x n r h c.kind_at.ensures) c.find_in_group.ensures c.in-Hit.is).0; passed = λ x n r. (onward-hit c.args.id c.loop-k.before (ahead-next (sought c.args.id 0) c.loop-k.invariant.1 x n r h c.kind_at.ensures) c.find_in_group.ensures c.in-Hit.is).1 ∙ sought-passed c.args.id _ }

pub loop-k-preserved : goal.loop-k-preserved
loop-k-preserved c = let w = c.args.w.widths in
    let k = c.loop-k.k in
    let h : k < length (kinds w) = omega (arith, c.loop-k-test.true, c.kind_count-k-end.ensures) in
    let ahead = ahead-next (sought c.args.id 0) c.loop-k.invariant.1 _ _ c.requires.readable.reads h c.kind_at.ensures in (
      onward-few c.args.id c.loop-k.before ahead c.find_in_group.ensures c.in-Miss.is (kind-range w k h (c.kind_at.ensures ∙ kind-known w k h)).0 c.loop-k.invariant.0,
      λ x n r. onward-miss c.args.id c.loop-k.before (ahead-next (sought c.args.id 0) c.loop-k.invariant.1 x n r h c.kind_at.ensures) c.find_in_group.ensures c.in-Miss.is (get_d-bytes c.args.part.now (λ i. (c.type_inv.part i).fits)),
    )

pub returns : goal.returns
returns c = let none : length (kinds c.args.w.widths) ≤ c.loop-k.k = omega (arith, c.loop-k-test.false, c.kind_count-k-end.ensures) in record { found = λ x n r. (sought-end c.args.id _ (elements c.args.w.widths x) (ahead_none (sought c.args.id 0) {k = c.loop-k.k} c.loop-k.invariant.1 x n r none)).0; passed = λ x n r. (sought-end c.args.id _ (elements c.args.w.widths x) (ahead_none (sought c.args.id 0) {k = c.loop-k.k} c.loop-k.invariant.1 x n r none)).1 }
