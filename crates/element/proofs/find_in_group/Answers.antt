use Rattle.std.specs.Prelude.{Ok}
use Rattle.element.specs.Search.{sought}
use Rattle.element.proofs.SearchLaws.{Searching, search-start, search-element, search-hit, search-within, search-on, search-done, group-room, sought-here, sought-later, searched-hit, searched-miss}
use Rattle.avl.proofs.Inversion.{group-read}
use mathlib.Core.Path.{◌≡◌, subst}
use native.Mathlib.Omega.{arith}
use Prim.Native.Nat.{◌+◌, ◌-◌, ◌<◌}
use Rattle.wire.specs.Numbers.{number_at}
use Rattle.element.proofs.find_in_group.Goals as goal

pub short_number-count-requires : goal.short_number-count-requires
short_number-count-requires c = (((group-read _ _ _ _).if-got _ _ c.requires.readable_group.reads).inside, omega arith)

pub overflow_add-behind : goal.overflow_add-behind
overflow_add-behind c = omega (arith, group-room c.requires.le_kind c.requires.readable_group, c.requires.before_le_at, c.short_number-count.ensures)

pub overflow_add-next : goal.overflow_add-next
overflow_add-next c = omega (arith, ((group-read _ _ _ _).if-got _ _ c.requires.readable_group.reads).inside)

pub loop-left-init : goal.loop-left-init
loop-left-init c = let none : 0 ≡ c.short_number-count.result - c.short_number-count.result = omega arith in
    (omega arith, subst (Searching c.args.w.widths c.args.kind c.args.part.now c.args.at (sought c.args.id) _) none (search-start c.requires.readable_group))

pub element_value-v-requires : goal.element_value-v-requires
element_value-v-requires c = record { kind_bound = c.requires.kind_bound; readable_element = search-element c.loop-left.invariant.1 (omega (arith, c.short_number-count.ensures, c.loop-left.invariant.0, c.loop-left-test.true)) }

pub overflow_sub-result : goal.overflow_sub-result
overflow_sub-result c = omega (arith, c.loop-left.invariant.0)

pub returns-then-v-id : goal.returns-then-v-id
returns-then-v-id c = λ g n f. searched-hit c.args.id c.args.before n (c.short_number-count.result - c.loop-left.left) _ (search-hit c.loop-left.invariant.1 (omega (arith, c.short_number-count.ensures, c.loop-left.invariant.0, c.loop-left-test.true)) c.element_value-v.ensures (λ e. record { found = Ok e; passed = c.short_number-count.result - c.loop-left.left + 1 }) (λ e l same. sought-here c.args.id e l same (c.short_number-count.result - c.loop-left.left) c.if-v-id.true) g n f) (omega (arith, c.loop-left.invariant.0, c.loop-left-test.true))

pub overflow_add-next-in-loop-left : goal.overflow_add-next-in-loop-left
overflow_add-next-in-loop-left c = omega (arith, search-within c.loop-left.invariant.1 (omega (arith, c.short_number-count.ensures, c.loop-left.invariant.0, c.loop-left-test.true)) c.element_value-v.ensures)

pub loop-left-preserved : goal.loop-left-preserved
loop-left-preserved c = let more : c.short_number-count.result - c.loop-left.left < number_at c.args.part.now c.args.at c.args.w.widths.count = omega (arith, c.short_number-count.ensures, c.loop-left.invariant.0, c.loop-left-test.true) in
    let one : c.short_number-count.result - c.loop-left.left + 1 ≡ c.short_number-count.result - (c.loop-left.left - 1) = omega (arith, c.loop-left.invariant.0, c.loop-left-test.true) in
    (omega (arith, c.loop-left.invariant.0), subst (Searching c.args.w.widths c.args.kind c.args.part.now c.args.at (sought c.args.id) _) one (search-on c.loop-left.invariant.1 more c.element_value-v.ensures (λ e l same. sought-later c.args.id e l same (c.short_number-count.result - c.loop-left.left) c.if-v-id.false)))

pub returns : goal.returns
returns c = λ g n f. searched-miss c.args.id c.args.before n (c.short_number-count.result - c.loop-left.left) _ (search-done c.loop-left.invariant.1 (omega (arith, c.short_number-count.ensures, c.loop-left-test.false)) g n f) (omega (arith, c.loop-left.invariant.0, c.loop-left-test.false))
