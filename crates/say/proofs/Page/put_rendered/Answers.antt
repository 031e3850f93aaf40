use Rattle.std.proofs.Common.{ℕ, List, ◌∷◌, refl, ap, sym, ◌∙◌, unwrap_or}
use Rattle.std.specs.Slice.Iter.{iter_rest}
use Rattle.say.specs.Rendering.{rendered}
use Rattle.say.proofs.RenderingLaws.{render-plain, render-mark, render-last, none-rendered, number-next}
use Rattle.say.proofs.PageLaws.{left_as, left-put, left-done}
use Rattle.say.proofs.Page.put_rendered.Goals as goal

pub loop-c-preserved : goal.loop-c-preserved
loop-c-preserved c =
    let step = ap (λ (t : List ℕ). rendered t c.loop-c.values.rest.now) c.in-Some.ensures.steps ∙ render-plain _ _ _ (sym c.is_mark.ensures ∙ c.if-is_mark.false) in
    (c.put.ensures.same ∙ c.loop-c.invariant.0, left-put (left_as step c.loop-c.invariant.1) c.put.ensures.page)

pub loop-c-preserved-in-Some-next : goal.loop-c-preserved-in-Some-next
loop-c-preserved-in-Some-next c =
    let number = number-next c.loop-c.values c.next-in-Some-next.new.self c.next-in-Some-next.result c.next-in-Some-next.ensures.steps (c.unwrap_or.ensures ∙ ap (λ o. unwrap_or o 0) c.copied.ensures) in
    let text = c.in-Some.ensures.steps ∙ ap (λ (t : List ℕ). c.in-Some.c.now ∷ t) c.in-Some-next.ensures.steps in
    let step =
    ap (λ (t : List ℕ). rendered t c.loop-c.values.rest.now) text
    ∙ render-mark _ _ _ _ (sym c.is_mark.ensures ∙ c.if-is_mark.true)
    ∙ rw (← number.0, ← number.1) refl in
    (c.put_number.ensures.same ∙ c.loop-c.invariant.0, left-put (left_as step c.loop-c.invariant.1) c.put_number.ensures.page)

pub loop-c-preserved-in_default-next : goal.loop-c-preserved-in_default-next
loop-c-preserved-in_default-next c =
    let none = c.in_default-next.ensures.steps in
    let step = ap (λ (t : List ℕ). rendered t c.loop-c.values.rest.now) c.in-Some.ensures.steps ∙ render-last _ _ _ (sym c.is_mark.ensures ∙ c.if-is_mark.true) none.0 in
    (c.loop-c.invariant.0, left_as (step ∙ ap (λ t. rendered (iter_rest t) c.loop-c.values.rest.now) (sym none.1)) c.loop-c.invariant.1)

pub returns-clause-page : goal.returns-clause-page
returns-clause-page c = left-done (left_as (none-rendered _ _ c.in_default.ensures.steps.0) c.loop-c.invariant.1)
