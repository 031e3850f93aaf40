use Rattle.std.specs.Prelude.{Err}
use mathlib.Core.Path.{ap, sym, ◌∙◌}
use Rattle.wire.proofs.Passing.{given_back}
use Rattle.avl.proofs.RecordLaws.{fixed-exact}
use Rattle.walk.proofs.WalkLaws.{walked-inside, record-unfixed, record-missing, record-stopped, record-uneven, record-forward, record-long, record-on}
use Rattle.wire.proofs.Widths.{get_d-bytes}
use borrow.Author.Rules.{rules}
use Rattle.walk.proofs.record_at.Goals as goal

pub returns-in_err-a1 : goal.returns-in_err-a1
returns-in_err-a1 c = given_back c.from_residual.ensures.1 ∙ sym (record-unfixed c.args.longest c.args.w.widths c.args.s.now c.args.at (sym c.in_err-a1.ensures))

pub overflow_add-a2 : goal.overflow_add-a2
overflow_add-a2 c =
    let s = c.args.s.now in
    let inside = walked-inside (fixed-exact c.args.w.widths) s c.args.at (get_d-bytes s (λ k. (c.type_inv.s k).fits)) c.requires.at_in_bounds (sym c.in_ok-a1.ensures) in
    search rules

pub returns-then-s-a2 : goal.returns-then-s-a2
returns-then-s-a2 c = ap Err c.at.ensures ∙ sym (record-missing c.args.longest c.args.w.widths c.args.s.now c.args.at (sym c.in_ok-a1.ensures) c.if-s-a2.true)

pub returns-then-total-elements : goal.returns-then-total-elements
returns-then-total-elements c = ap Err c.at-then-total-elements.ensures ∙ sym (record-uneven c.args.longest c.args.w.widths c.args.s.now c.args.at (sym c.in_ok-a1.ensures) c.if-s-a2.false c.short_number-total.ensures (sym c.in_ok-elements.ensures) c.if-total-elements.true)

pub overflow_sub-end : goal.overflow_sub-end
overflow_sub-end c =
    let s = c.args.s.now in
    record-forward c.args.longest c.args.w.widths c.args.s.now c.args.at (sym c.in_ok-a1.ensures) c.if-s-a2.false c.short_number-total.ensures (sym c.in_ok-elements.ensures) (get_d-bytes s (λ k. (c.type_inv.s k).fits)) c.requires.at_in_bounds

pub returns-then-longest-end : goal.returns-then-longest-end
returns-then-longest-end c = ap Err c.at-then-longest-end.ensures ∙ sym (record-long c.args.longest c.args.w.widths c.args.s.now c.args.at (sym c.in_ok-a1.ensures) c.if-s-a2.false c.short_number-total.ensures (sym c.in_ok-elements.ensures) c.if-total-elements.false c.if-longest-end.true)

pub returns-in_err-elements : goal.returns-in_err-elements
returns-in_err-elements c = given_back c.from_residual-in_err-elements.ensures.1 ∙ sym (record-stopped c.args.longest c.args.w.widths c.args.s.now c.args.at (sym c.in_ok-a1.ensures) c.if-s-a2.false (sym c.in_err-elements.ensures))

pub returns : goal.returns
returns c = sym (record-on c.args.longest c.args.w.widths c.args.s.now c.args.at (sym c.in_ok-a1.ensures) c.if-s-a2.false c.short_number-total.ensures (sym c.in_ok-elements.ensures) c.if-total-elements.false c.if-longest-end.false)
