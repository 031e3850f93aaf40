use Rattle.wire.proofs.Passing.{given_back}
use Prim.Native.Nat.{◌+◌, ◌<◌}
use native.Mathlib.Omega.{arith}
use mathlib.Core.Path.{sym, ◌∙◌}
use lib.ListN.{length}
use Rattle.wire.proofs.Widths.{get_d-bytes}
use Rattle.avl.specs.Codecs.{kinds}
use Rattle.walk.proofs.KindLaws.{kinds-few, kind-known, kind-range}
use Rattle.walk.proofs.WalkLaws.{group-read, Counting, counting-start, counting-stops, counting-on, count-done}
use Rattle.walk.proofs.groups_at.Goals as goal

-- what is left behind the group that was read
behind : (c : goal.In_ok-count)
    →
    let loop = c.loop-k in
    Counting c.args.w.widths c.args.s.now c.args.at (loop.elements + c.in_ok-count.count) c.in_ok-count.to (loop.k + 1)
behind c =
    let s = c.args.s.now in
    let k = c.loop-k.k in
    let inv = c.loop-k.invariant in
    let h : k < length (kinds c.args.w.widths) = omega (arith, c.loop-k-test.true, c.kind_count-k-end.ensures) in
    let g = group-read c.args.w.widths _ s _ c.args.w.narrow (get_d-bytes s (λ i. (c.type_inv.s i).fits)) inv.inside (sym c.in_ok-count.ensures) in
    counting-on c.args.w.widths inv h c.kind_at.ensures g

pub loop-k-init : goal.loop-k-init
loop-k-init c = counting-start c.args.w.widths c.args.s.now c.args.at c.requires.at_in_bounds

pub kind_at-requires : goal.kind_at-requires
kind_at-requires c = omega (arith, kinds-few c.args.w.widths, c.kind_count-k-end.ensures)

pub group_at-requires : goal.group_at-requires
group_at-requires c =
    let k = c.loop-k.k in
    let h : k < length (kinds c.args.w.widths) = omega (arith, c.loop-k-test.true, c.kind_count-k-end.ensures) in
    record { le_kind = kind-range c.args.w.widths k h (c.kind_at.ensures ∙ kind-known c.args.w.widths k h); at_in_bounds = c.loop-k.invariant.inside }

pub overflow_add-elements : goal.overflow_add-elements
overflow_add-elements c = omega (arith, (behind c).few, kinds-few c.args.w.widths, c.kind_count-k-end.ensures, c.loop-k-test.true)

pub returns-in_err-count : goal.returns-in_err-count
returns-in_err-count c =
    let k = c.loop-k.k in
    let h : k < length (kinds c.args.w.widths) = omega (arith, c.loop-k-test.true, c.kind_count-k-end.ensures) in
    given_back c.from_residual.ensures.1 ∙ counting-stops c.args.w.widths c.loop-k.invariant h c.kind_at.ensures (sym c.in_err-count.ensures)

pub loop-k-preserved : goal.loop-k-preserved
loop-k-preserved c = behind c

pub returns : goal.returns
returns c =
    let args = c.args in
    sym (count-done args.w.widths args.s.now c.loop-k.k c.loop-k.elements c.loop-k.next (omega (arith, c.loop-k-test.false, c.kind_count-k-end.ensures))) ∙ c.loop-k.invariant.rest
