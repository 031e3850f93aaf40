use Rattle.wire.proofs.Passing.{given_back}
use Rattle.std.specs.Prelude.{Err}
use Prim.Native.Nat.{◌+◌, ◌-◌}
use native.Mathlib.Nat.{mod-le}
use native.Mathlib.Omega.{arith}
use mathlib.Core.Path.{◌≡◌, sym, ap, ◌∙◌}
use lib.ListN.{length}
use Rattle.wire.specs.Reading.{walked, repeat}
use Rattle.wire.proofs.Widths.{get_d-bytes}
use Rattle.wire.proofs.Walking.{short}
use Rattle.avl.specs.RecordReader.{element}
use Rattle.walk.proofs.WalkLaws.{group-extent, fixed-elements, fixed-cut, group-missing, group-stops, group_of}
use Rattle.walk.proofs.group_at.Goals as goal

pub returns-then-s-start : goal.returns-then-s-start
returns-then-s-start c =
    let args = c.args in
    ap Err c.at.ensures ∙ sym (group-missing args.w.widths args.kind args.s.now args.at c.if-s-start.true)

pub overflow_mul-end : goal.overflow_mul-end
overflow_mul-end c =
    let args = c.args in
    let s = args.s.now in
    omega (arith, group-extent args.w.widths args.kind s args.at c.short_number-n.ensures args.w.narrow c.requires.le_kind.1 (get_d-bytes s (λ k. (c.type_inv.s k).fits)))

pub overflow_add-end : goal.overflow_add-end
overflow_add-end c =
    let args = c.args in
    let s = args.s.now in
    omega (arith, group-extent args.w.widths args.kind s args.at c.short_number-n.ensures args.w.narrow c.requires.le_kind.1 (get_d-bytes s (λ k. (c.type_inv.s k).fits)))

pub returns-then-end-s : goal.returns-then-end-s
returns-then-end-s c =
    let args = c.args in
    let s = args.s.now in
    let ne : args.kind ≡ 9 → ⊥ = λ e. omega (arith, c.if-kind-lt9.true) in
    sym (group_of args.w.widths args.kind s args.at c.short_number-n.ensures (get_d-bytes s (λ k. (c.type_inv.s k).fits)) c.if-s-start.false
    (fixed-elements args.w.widths args.kind s c.short_number-n.result _ ne c.if-end-s.true))

pub overflow_sub-s : goal.overflow_sub-s
overflow_sub-s c =
    let args = c.args in
    omega (arith, mod-le (length args.s.now - (args.at + args.w.widths.count)) (args.w.widths.id + args.kind))

pub returns-then-kind-lt9 : goal.returns-then-kind-lt9
returns-then-kind-lt9 c =
    let args = c.args in
    let s = args.s.now in
    let ne : args.kind ≡ 9 → ⊥ = λ e. omega (arith, c.if-kind-lt9.true) in
    let start = args.at + args.w.widths.count in
    let stopped = fixed-cut args.w.widths args.kind s c.requires.le_kind.0 ne c.short_number-n.result start c.if-s-start.false c.if-end-s.false in
    sym (group-stops args.w.widths args.kind s args.at c.short_number-n.ensures c.if-s-start.false (stopped ∙ ap (λ n. Err (short n)) (sym c.cut.ensures)))

pub returns : goal.returns
returns c =
    let args = c.args in
    let s = args.s.now in
    let nine : 9 ≡ args.kind = omega (arith, c.if-kind-lt9.false, c.requires.le_kind.1) in
    sym (group_of args.w.widths args.kind s args.at c.short_number-n.ensures (get_d-bytes s (λ k. (c.type_inv.s k).fits)) c.if-s-start.false
    (ap (λ k. walked (repeat c.short_number-n.result (element args.w.widths k) s (args.at + args.w.widths.count))) (sym nine) ∙ sym c.in_ok-next.ensures))

pub returns-in_err-next : goal.returns-in_err-next
returns-in_err-next c =
    let args = c.args in
    let s = args.s.now in
    let nine : 9 ≡ args.kind = omega (arith, c.if-kind-lt9.false, c.requires.le_kind.1) in
    given_back c.from_residual.ensures.1 ∙ sym (group-stops args.w.widths args.kind s args.at c.short_number-n.ensures c.if-s-start.false
    (ap (λ k. walked (repeat c.short_number-n.result (element args.w.widths k) s (args.at + args.w.widths.count))) (sym nine) ∙ sym c.in_err-next.ensures))
