use Rattle.std.specs.Prelude.{Err}
use Prim.Native.Nat.{ℕ, ◌+◌}
use mathlib.Core.Path.{refl, sym, ◌∙◌, ap}
use Rattle.wire.specs.Reading.{got}
use Rattle.wire.proofs.Walking.{walked-bad, walked-got, number-there, number-missing, number-got, number-bad, then-bad}
use Rattle.avl.specs.RecordReader.{value_size, element}
use Rattle.walk.proofs.WalkLaws.{variable-size, element-there, element-cut}
use Rattle.walk.proofs.variable_at.Goals as goal

pub returns-then-s-size_at : goal.returns-then-s-size_at
unfolding element
returns-then-s-size_at c =
    let args = c.args in
    ap Err c.at.ensures ∙ sym (walked-bad _ (number-missing _ args.s.now args.at args.w.widths.id c.if-s-size_at.true))

pub returns-then-s-value_at : goal.returns-then-s-value_at
unfolding element
returns-then-s-value_at c =
    let args = c.args in
    let s = args.s.now in
    let at = args.at in
    let id = args.w.widths.id in
    ap Err c.at-then-s-value_at.ensures ∙ sym (walked-bad _
    (number-there _ s at id c.if-s-size_at.false
    ∙ then-bad (value_size 9) _ s (at + id) (variable-size s (at + id) 9 refl ∙ number-bad 2 s (at + id) c.if-s-value_at.true)))

pub returns-then-s-end : goal.returns-then-s-end
returns-then-s-end c =
    let args = c.args in
    let s = args.s.now in
    let a1 = args.at + args.w.widths.id in
    let sized = variable-size s a1 9 refl ∙ number-got 2 s a1 c.if-s-value_at.false ∙ ap (λ (n : ℕ). got n (a1 + 2)) (sym c.be16.ensures) in
    ap Err c.at-then-s-end.ensures ∙ sym (walked-bad _ (element-cut args.w.widths 9 s args.at c.if-s-size_at.false sized c.if-s-end.true))

pub returns : goal.returns
returns c =
    let args = c.args in
    let s = args.s.now in
    let a1 = args.at + args.w.widths.id in
    let sized = variable-size s a1 9 refl ∙ number-got 2 s a1 c.if-s-value_at.false ∙ ap (λ (n : ℕ). got n (a1 + 2)) (sym c.be16.ensures) in
    sym (walked-got _ (element-there args.w.widths 9 s args.at c.if-s-size_at.false sized c.if-s-end.false).1)
