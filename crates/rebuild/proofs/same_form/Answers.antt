use Rattle.rebuild.proofs.CandidateLaws.{form-over, form-within, form-refused, form-compared}
use Rattle.rebuild.specs.Candidates.{has_form}
use Rattle.form.specs.Moves.{form_of_field}
use Rattle.wire.proofs.Widths.{get_d-bytes}
use Rattle.wire.proofs.BufferLaws.{written-fits}
use Rattle.std.proofs.lemmas.List.{length-take-le}
use mathlib.Core.Path.{sym, ap, ◌∙◌}
use native.Mathlib.Omega.{arith}
use Rattle.rebuild.proofs.same_form.Goals as goal

pub returns-then-limits-d : goal.returns-then-limits-d
returns-then-limits-d c = form-over c.args.limits c.args.d.now c.args.f.now c.if-limits-d.true

pub slice_bounds-eq-end : goal.slice_bounds-eq-end
slice_bounds-eq-end c =
    let args = c.args in
    let h = written-fits (form_of_field args.limits.longest args.d.now) _ (sym (c.in-Ok.is) ∙ c.form_of_field.ensures.answer) in
    omega (arith, h.3)

pub slice_bounds-eq-end-in-Ok : goal.slice_bounds-eq-end-in-Ok
slice_bounds-eq-end-in-Ok c = sym (length-take-le _ _ (slice_bounds-eq-end c))

pub returns-in-Err : goal.returns-in-Err
returns-in-Err c =
    let args = c.args in
    let d = args.d.now in
    form-refused args.limits.longest d _ args.f.now (get_d-bytes d (λ k. (c.type_inv.d k).fits)) c.requires.0 c.requires.2 (sym (c.in-Err.is) ∙ c.form_of_field.ensures.answer)
    ∙ sym (ap (λ r. has_form r args.f.now) (form-within args.limits d c.if-limits-d.false))

pub returns-then-eq : goal.returns-then-eq
returns-then-eq c =
    let args = c.args in
    sym c.if-eq.true
    ∙ c.eq.ensures
    ∙ form-compared args.limits args.d.now args.f.now _ _ c.if-limits-d.false (sym (c.in-Ok.is) ∙ c.form_of_field.ensures.answer) c.form_of_field.ensures.buffer

pub returns-else-eq : goal.returns-else-eq
returns-else-eq c =
    let args = c.args in
    sym c.if-eq.false
    ∙ c.eq.ensures
    ∙ form-compared args.limits args.d.now args.f.now _ _ c.if-limits-d.false (sym (c.in-Ok.is) ∙ c.form_of_field.ensures.answer) c.form_of_field.ensures.buffer
