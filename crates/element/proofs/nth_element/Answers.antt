use Rattle.element.proofs.NumberLaws.{nth-nothing, number-end, number-on, number-element, number-hit, number-last, last, four-kinds}
use Rattle.element.proofs.SearchLaws.{ahead-start, ahead-next, ahead_none, onward-group, onward-inside}
use Rattle.element.specs.Search.{element_as}
use Rattle.element.specs.Elements.{nth}
use Rattle.walk.proofs.KindLaws.{kinds-four, fixed-kind}
use Rattle.wire.proofs.Widths.{get_d-bytes}
use mathlib.Core.Path.{ap, ◌∙◌}
use native.Mathlib.Omega.{arith}
use native.Mathlib.Nat.{mul-le-mul_right, le_of_lt}
use Prim.Native.Nat.{◌+◌}
use Rattle.element.proofs.nth_element.Goals as goal

pub loop-k-init : goal.loop-k-init
loop-k-init c = ahead-start (nth c.args.n) c.fixed_size-next.ensures

pub kind_at-kind-requires : goal.kind_at-kind-requires
kind_at-kind-requires c = omega (arith, c.loop-k-test.true)

pub overflow_add-size : goal.overflow_add-size
overflow_add-size c = omega (arith, c.args.w.narrow.id, c.kind_at-kind.ensures, fixed-kind c.loop-k.k c.loop-k-test.true)

pub short_number-count-requires : goal.short_number-count-requires
short_number-count-requires c = (onward-inside (ahead-next (nth c.args.n) {k = c.loop-k.k} c.loop-k.invariant _ _ c.requires.readable.reads (omega (arith, c.loop-k-test.true, kinds-four c.args.w.widths)) c.kind_at-kind.ensures), c.args.w.narrow.count)

pub overflow_add-start : goal.overflow_add-start
overflow_add-start c = omega (arith, onward-inside (ahead-next (nth c.args.n) {k = c.loop-k.k} c.loop-k.invariant _ _ c.requires.readable.reads (omega (arith, c.loop-k-test.true, kinds-four c.args.w.widths)) c.kind_at-kind.ensures))

pub overflow_mul-place : goal.overflow_mul-place
overflow_mul-place c = omega (arith, number-end c.loop-k.left (ahead-next (nth c.args.n) {k = c.loop-k.k} c.loop-k.invariant _ _ c.requires.readable.reads (omega (arith, c.loop-k-test.true, kinds-four c.args.w.widths)) c.kind_at-kind.ensures) c.short_number-count.ensures (λ e. omega (arith, e, c.kind_at-kind.ensures, fixed-kind c.loop-k.k c.loop-k-test.true)), mul-le-mul_right (c.args.w.widths.id + c.kind_at-kind.result) (le_of_lt c.if-left-count.true))

pub overflow_add-place : goal.overflow_add-place
overflow_add-place c = omega (arith, number-end c.loop-k.left (ahead-next (nth c.args.n) {k = c.loop-k.k} c.loop-k.invariant _ _ c.requires.readable.reads (omega (arith, c.loop-k-test.true, kinds-four c.args.w.widths)) c.kind_at-kind.ensures) c.short_number-count.ensures (λ e. omega (arith, e, c.kind_at-kind.ensures, fixed-kind c.loop-k.k c.loop-k-test.true)), mul-le-mul_right (c.args.w.widths.id + c.kind_at-kind.result) (le_of_lt c.if-left-count.true))

pub element_value-requires : goal.element_value-requires
element_value-requires c = record { kind_bound = omega (arith, c.kind_at-kind.ensures, fixed-kind c.loop-k.k c.loop-k-test.true); readable_element = number-element c.loop-k.left (ahead-next (nth c.args.n) {k = c.loop-k.k} c.loop-k.invariant _ _ c.requires.readable.reads (omega (arith, c.loop-k-test.true, kinds-four c.args.w.widths)) c.kind_at-kind.ensures) c.short_number-count.ensures (λ e. omega (arith, e, c.kind_at-kind.ensures, fixed-kind c.loop-k.k c.loop-k-test.true)) c.if-left-count.true }

pub returns-then-left-count : goal.returns-then-left-count
returns-then-left-count c = λ x n r. number-hit c.loop-k.left (ahead-next (nth c.args.n) {k = c.loop-k.k} c.loop-k.invariant x n r (omega (arith, c.loop-k-test.true, kinds-four c.args.w.widths)) c.kind_at-kind.ensures) c.short_number-count.ensures (λ e. omega (arith, e, c.kind_at-kind.ensures, fixed-kind c.loop-k.k c.loop-k-test.true)) c.if-left-count.true c.element_value.ensures

pub overflow_mul-next : goal.overflow_mul-next
overflow_mul-next c = omega (arith, number-end c.loop-k.left (ahead-next (nth c.args.n) {k = c.loop-k.k} c.loop-k.invariant _ _ c.requires.readable.reads (omega (arith, c.loop-k-test.true, kinds-four c.args.w.widths)) c.kind_at-kind.ensures) c.short_number-count.ensures (λ e. omega (arith, e, c.kind_at-kind.ensures, fixed-kind c.loop-k.k c.loop-k-test.true)))

pub overflow_add-next : goal.overflow_add-next
overflow_add-next c = omega (arith, number-end c.loop-k.left (ahead-next (nth c.args.n) {k = c.loop-k.k} c.loop-k.invariant _ _ c.requires.readable.reads (omega (arith, c.loop-k-test.true, kinds-four c.args.w.widths)) c.kind_at-kind.ensures) c.short_number-count.ensures (λ e. omega (arith, e, c.kind_at-kind.ensures, fixed-kind c.loop-k.k c.loop-k-test.true)))

pub loop-k-preserved : goal.loop-k-preserved
loop-k-preserved c = λ x n r. number-on c.loop-k.left (ahead-next (nth c.args.n) {k = c.loop-k.k} c.loop-k.invariant x n r (omega (arith, c.loop-k-test.true, kinds-four c.args.w.widths)) c.kind_at-kind.ensures) c.short_number-count.ensures (λ e. omega (arith, e, c.kind_at-kind.ensures, fixed-kind c.loop-k.k c.loop-k-test.true)) (get_d-bytes c.args.part.now (λ i. (c.type_inv.part i).fits)) c.if-left-count.false

pub nth_variable-requires : goal.nth_variable-requires
nth_variable-requires c = record { readable_group = onward-group (last c.args.w.widths c.args.part.now c.args.n c.loop-k.left c.loop-k.k c.loop-k.invariant (omega (arith, c.loop-k-test.false)) c.if-w.true _ _ c.requires.readable.reads) }

pub returns-then-w : goal.returns-then-w
returns-then-w c = λ x n r. number-last c.loop-k.left (last c.args.w.widths c.args.part.now c.args.n c.loop-k.left c.loop-k.k c.loop-k.invariant (omega (arith, c.loop-k-test.false)) c.if-w.true x n r) c.nth_variable.ensures

pub returns : goal.returns
returns c = λ x n r. nth-nothing c.loop-k.left ∙ ap element_as (ahead_none (nth c.args.n) {k = c.loop-k.k} c.loop-k.invariant x n r (omega (arith, four-kinds c.args.w.widths c.if-w.false, c.loop-k-test.false)))
