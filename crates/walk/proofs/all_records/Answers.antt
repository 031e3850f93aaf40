use native.Mathlib.Omega.{arith}
use mathlib.Core.Path.{◌≡◌, sym, ap₂, ◌∙◌}
use Prim.Native.Nat.{ℕ, ◌+◌}
use lib.Dec.{eqb}
use borrow.Author.Tests.{eq-eqb, ne_eqb}
use Rattle.wire.specs.Numbers.{pick}
use Rattle.wire.proofs.Accepting.{pick_true, pick-false}
use Rattle.wire.proofs.Widths.{get_d-bytes}
use Rattle.walk.specs.declared.Span.{Span}
use Rattle.walk.specs.Walks.{elements_of}
use Rattle.walk.proofs.WalkLaws.{counted-inside, answer_from, answer-whole, answer-on, answer-broken, answer-over, answer-done}
use Rattle.avl.proofs.RecordLaws.{record-exact}
use Rattle.walk.proofs.all_records.Goals as goal
use Rattle.walk.proofs.all_records.Goals.{then-i-want, else-i-want}

-- what the branch leaves: the end of the record, and where the wanted one lies as far as it was met
found : (c : goal.Joined-i-want)
    → (c.if-i-want.next ≡ c.in-Ok.end)
    × (◌≡◌ {A = Span} c.if-i-want.span
    (pick (eqb c.loop-i.i c.args.want) (record { start = c.loop-i.next; end = c.in-Ok.end; elements = c.in-Ok.elements }) c.loop-i.span))
found c =
    let i = c.loop-i.i in
    let want = c.args.want in
    elim c.if-i-want.branch [
      | then-i-want w ↦ (w.next-is, w.span-is ∙ sym (pick_true (eqb i want) _ _ (eq-eqb i want w.if-i-want.true)))
      | else-i-want w ↦ (w.next-is, w.span-is ∙ sym (pick-false (eqb i want) _ _ (ne_eqb i want w.if-i-want.false)))
    ]

pub loop-i-init : goal.loop-i-init
loop-i-init c =
    let args = c.args in
    (omega arith, answer-whole args.w.widths args.s.now args.count args.want args.longest)

pub returns-in-Err : goal.returns-in-Err
returns-in-Err c =
    let args = c.args in
    let loop = c.loop-i in
    sym (answer-broken args.w.widths args.s.now args.count args.want args.longest loop.i loop.span loop.next c.loop-i-test.true (sym c.record_at.ensures ∙ c.in-Err.is))
    ∙ loop.invariant.1

pub loop-i-preserved : goal.loop-i-preserved
loop-i-preserved c =
    let args = c.args in
    let loop = c.loop-i in
    let s = args.s.now in
    let i = loop.i in
    let all-bytes = get_d-bytes s (λ k. (c.type_inv.s k).fits) in
    let on = sym c.record_at.ensures ∙ c.in-Ok.is in
    let inside = counted-inside elements_of (record-exact args.longest args.w.widths) s loop.next all-bytes loop.invariant.0 on in
    let new = found c in (
      omega (arith, inside, new.0),
      ap₂ (λ (x : Span) (n : ℕ). answer_from args.w.widths s args.count args.want args.longest (i + 1) x n) new.1 new.0
          ∙ answer-on args.w.widths s args.count args.want args.longest i loop.span loop.next all-bytes loop.invariant.0 c.loop-i-test.true on
          ∙ loop.invariant.1,
    )

pub returns-then-next-s : goal.returns-then-next-s
returns-then-next-s c =
    let args = c.args in
    let loop = c.loop-i in
    sym (answer-over args.w.widths args.s.now args.count args.want args.longest loop.i loop.span loop.next c.loop-i-test.false c.if-next-s.true) ∙ loop.invariant.1

pub returns : goal.returns
returns c =
    let args = c.args in
    let loop = c.loop-i in
    sym (answer-done args.w.widths args.s.now args.count args.want args.longest loop.i loop.span loop.next c.loop-i-test.false c.if-next-s.false) ∙ loop.invariant.1
