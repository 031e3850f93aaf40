use Rattle.std.specs.Prelude.{Err}
use mathlib.Core.Path.{ap, sym, ◌∙◌, subst}
use Prim.Native.Nat.{ℕ, ◌+◌, ◌≤◌, ◌<◌}
use native.Mathlib.Omega.{arith}
use Rattle.wire.specs.Reading.{pure}
use Rattle.wire.proofs.Walking.{walked-bad, walked-got, number-there, up_to-there, up_to-over}
use Rattle.wire.proofs.Shifts.{number-one}
use Rattle.avl.specs.RecordReader.{fixed_fields}
use Rattle.walk.proofs.WalkLaws.{fixed-start}
use Rattle.walk.proofs.fixed_fields.Goals as goal

pub returns-then-s-a1-gt2 : goal.returns-then-s-a1-gt2
unfolding fixed_fields
returns-then-s-a1-gt2 c =
    let args = c.args in
    let s = args.s.now in
    let at = args.at in
    ap Err c.at.ensures ∙ sym (walked-bad _
    (number-there _ s at 8 (omega arith)
    ∙ up_to-over _ s (at + 8) 1 2 10 (omega arith) (subst (λ (n : ℕ). 2 < n) (sym (number-one s (at + 8))) c.if-s-a1-gt2.true)))

pub returns-then-short_number-gt7 : goal.returns-then-short_number-gt7
returns-then-short_number-gt7 c =
    let args = c.args in
    let s = args.s.now in
    let at = args.at in
    let begun = fixed-start args.w.widths s at (omega arith) (subst (λ (n : ℕ). n ≤ 2) (sym (number-one s (at + 8))) c.if-s-a1-gt2.false) in
    ap Err c.at-then-short_number-gt7.ensures ∙ sym (walked-bad _ (begun.1 ∙ up_to-over _ s _ args.w.widths.generation 7 11 c.if-s-a10.false (subst (λ (n : ℕ). 7 < n) c.short_number.ensures c.if-short_number-gt7.true)))

pub returns : goal.returns
unfolding pure
returns c =
    let args = c.args in
    let s = args.s.now in
    let at = args.at in
    let begun = fixed-start args.w.widths s at (omega arith) (subst (λ (n : ℕ). n ≤ 2) (sym (number-one s (at + 8))) c.if-s-a1-gt2.false) in
    sym (walked-got _ (begun.1 ∙ up_to-there _ s _ args.w.widths.generation 7 11 c.if-s-a10.false (subst (λ (n : ℕ). n ≤ 7) c.short_number.ensures c.if-short_number-gt7.false)))
