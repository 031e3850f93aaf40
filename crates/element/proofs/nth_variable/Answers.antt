use Rattle.std.specs.Prelude.{Ok}
use Rattle.element.specs.Elements.{locate_group, nth}
use Prim.Native.Nat.{◌+◌, ℕ, ◌-◌}
use mathlib.Core.Path.{◌≡◌, ap, ◌∙◌}
use Rattle.element.proofs.NumberLaws.{nth_here, nth-later, nth_beyond, at-found}
use Rattle.element.proofs.SearchLaws.{search-start, search-element, search-hit, search-within, search-on}
use Rattle.avl.proofs.Inversion.{group-read}
use native.Mathlib.Omega.{arith}
use Rattle.element.proofs.nth_variable.Goals as goal

pub short_number-count-requires : goal.short_number-count-requires
short_number-count-requires c = (((group-read _ _ _ _).if-got _ _ c.requires.readable_group.reads).inside, omega arith)

pub returns-then-count-n : goal.returns-then-count-n
returns-then-count-n c = nth_beyond c.args.w.widths 9 c.args.part.now c.args.at c.args.n (omega (arith, c.short_number-count.ensures, c.if-count-n.true))

pub overflow_add-next : goal.overflow_add-next
overflow_add-next c = omega (arith, ((group-read _ _ _ _).if-got _ _ c.requires.readable_group.reads).inside)

pub loop-i-init : goal.loop-i-init
loop-i-init c = search-start c.requires.readable_group

pub element_value-v-requires : goal.element_value-v-requires
element_value-v-requires c = record { kind_bound = omega arith; readable_element = search-element c.loop-i.invariant (omega (arith, c.short_number-count.ensures, c.if-count-n.false, c.loop-i-test.true)) }

pub overflow_add-next-in-loop-i : goal.overflow_add-next-in-loop-i
overflow_add-next-in-loop-i c = omega (arith, search-within c.loop-i.invariant (omega (arith, c.short_number-count.ensures, c.if-count-n.false, c.loop-i-test.true)) c.element_value-v.ensures)

pub loop-i-preserved : goal.loop-i-preserved
loop-i-preserved c = search-on c.loop-i.invariant (omega (arith, c.short_number-count.ensures, c.if-count-n.false, c.loop-i-test.true)) c.element_value-v.ensures (λ e l same. nth-later c.loop-i-test.true e l)

pub element_value-requires : goal.element_value-requires
element_value-requires c = record { kind_bound = omega arith; readable_element = search-element c.loop-i.invariant (omega (arith, c.short_number-count.ensures, c.if-count-n.false)) }

pub returns : goal.returns
returns c = λ g m f.
    let hit = search-hit c.loop-i.invariant (omega (arith, c.short_number-count.ensures, c.if-count-n.false)) c.element_value.ensures Ok (λ e l same. nth_here c.loop-i-test.false e l) g m f in
    let whole : c.args.n ≡ c.args.n - 0 = omega arith in
    let l = locate_group c.args.w.widths 9 (c.args.at + c.args.w.widths.count) g in
    at-found (nth c.args.n l) (hit.0, ap (λ (k : ℕ). nth k l) whole ∙ hit.1, hit.2)
