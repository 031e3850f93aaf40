use Rattle.std.specs.Prelude.{Err}
use mathlib.Core.Path.{◌≡◌, sym, ap, ◌∙◌, subst}
use mathlib.Core.List.{List, ◌∷◌}
use Prim.Native.Nat.{ℕ, ◌+◌, ◌≤◌, ◌<◌}
use native.Mathlib.Numerals.{add-one}
use native.Mathlib.Omega.{arith}
use lib.ListN.{length, drop, get_or, drop_of_length-le}
use lib.Seq.{drop-cons}
use Rattle.avl.specs.RecordReader.{fixed_fields}
use Rattle.wire.proofs.Shifts.{number-one}
use Rattle.wire.proofs.Walking.{short, walked-bad, number-there, up_to-over}
use Rattle.walk.proofs.WalkLaws.{field_widths, missing_from, missing-none, missing-there, missing-here, fixed-short}
use Rattle.walk.proofs.fixed_missing.Goals as goal
use Rattle.walk.proofs.fixed_missing.Goals.{else-priority-s-via-then-priority-s+else-s-priority-gt2, else-priority-s-via-else-priority-s}

pub returns-then-s-priority-gt2 : goal.returns-then-s-priority-gt2
unfolding fixed_fields
returns-then-s-priority-gt2 c =
    let s = c.args.s.now in
    let at = c.args.at in
    ap Err c.at.ensures
    ∙ sym (walked-bad _ (number-there _ s at 8 (omega arith) ∙ up_to-over _ s (at + 8) 1 2 10 (omega arith) (subst (λ (n : ℕ). 2 < n) (sym (number-one s (at + 8))) c.if-s-priority-gt2.true)))

pub loop-width-init : goal.loop-width-init
loop-width-init c =
    let s = c.args.s.now in
    let at = c.args.at in
    let few : at + 8 + 1 ≤ length s → get_or s (at + 8) 0 ≤ 2 =
    λ h.
    elim c.else-priority-s.branch [
      | else-priority-s-via-then-priority-s+else-s-priority-gt2 w ↦ w.if-s-priority-gt2.false
      | else-priority-s-via-else-priority-s w ↦ absurd (omega (arith, h, w.if-priority-s.false))
    ] in
    (c.requires.at_in_bounds, fixed-short c.args.w.widths s at (omega arith) (λ h. subst (λ (n : ℕ). n ≤ 2) (sym (number-one s (at + 8))) (few h)))

-- the fields that are left, the present one first
present : (l : List ℕ) (k : ℕ) → k < length l → drop k l ≡ get_or l k 0 ∷ drop (k + 1) l
present l k h = drop-cons l k 0 h ∙ ap (λ (n : ℕ). get_or l k 0 ∷ drop n l) (sym (add-one k))

pub returns-then-s-field : goal.returns-then-s-field
returns-then-s-field c =
    let s = c.args.s.now in
    ap Err c.at-then-s-field.ensures
    ∙ ap (λ (n : ℕ). Err (short n)) (sym (ap (λ l. missing_from s l c.loop-width.field) (present (field_widths c.args.w.widths) c.loop-width.width-index c.loop-width-test.true) ∙ missing-here s _ _ c.loop-width.field c.if-s-field.true))
    ∙ c.loop-width.invariant.1

pub loop-width-preserved : goal.loop-width-preserved
loop-width-preserved c =
    let s = c.args.s.now in (
      c.if-s-field.false,
      ap (λ (n : ℕ). Err (short n)) (sym (ap (λ l. missing_from s l c.loop-width.field) (present (field_widths c.args.w.widths) c.loop-width.width-index c.loop-width-test.true) ∙ missing-there s _ _ c.loop-width.field c.if-s-field.false))
          ∙ c.loop-width.invariant.1,
    )

pub returns : goal.returns
returns c =
    let s = c.args.s.now in
    let l = field_widths c.args.w.widths in
    ap Err c.at-2.ensures
    ∙ ap (λ (n : ℕ). Err (short n)) (sym (ap (λ l. missing_from s l c.loop-width.field) (drop_of_length-le l c.loop-width-test.false) ∙ missing-none s c.loop-width.field))
    ∙ c.loop-width.invariant.1
