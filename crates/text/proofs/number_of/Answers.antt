use Rattle.std.proofs.Common.{◌≡◌, ◌+◌, ◌-◌, ◌*◌, get_or, sym, ◌∙◌, arith}
use Rattle.text.proofs.NumberLaws.{number-first, number-none, number-other, number-over, number-on, number-done}
use Rattle.text.proofs.number_of.Goals as goal

pub returns-then-is_empty : goal.returns-then-is_empty
returns-then-is_empty c = sym (number-none _ _ c.if-is_empty.ensures)

pub loop-c-init : goal.loop-c-init
loop-c-init c = number-first _ _ c.if-is_empty.ensures

pub returns-then-not-is_ascii_digit : goal.returns-then-not-is_ascii_digit
returns-then-not-is_ascii_digit c = sym (number-other _ _ c.loop-c-test.true _ _ c.if-not-is_ascii_digit.ensures.cases) ∙ c.loop-c.invariant

pub returns-in_default : goal.returns-in_default
returns-in_default c =
    let digit = c.if-not-is_ascii_digit.ensures.cases in
    sym (number-over _ _ c.loop-c-test.true _ c.loop-c.n digit.0 digit.1 (omega (arith, c.in_default.ensures, c.ranges.limit.fits))) ∙ c.loop-c.invariant

pub returns-then-limit-next : goal.returns-then-limit-next
returns-then-limit-next c =
    let digit = c.if-not-is_ascii_digit.ensures.cases in
    sym (number-over _ _ c.loop-c-test.true _ c.loop-c.n digit.0 digit.1 (omega (arith, c.in-Some.ensures))) ∙ c.loop-c.invariant

pub loop-c-preserved : goal.loop-c-preserved
loop-c-preserved c =
    let digit = c.if-not-is_ascii_digit.ensures.cases in
    let next : c.in-Some.next ≡ c.loop-c.n * 10 + (get_or c.args.w.now c.loop-c.c-index 0 - 48) = omega (arith, c.in-Some.ensures) in
    rw next (sym (number-on _ _ c.loop-c-test.true _ c.loop-c.n digit.0 digit.1 (omega arith)) ∙ c.loop-c.invariant)

pub returns : goal.returns
returns c = sym (number-done _ _ _ _ c.loop-c-test.false) ∙ c.loop-c.invariant
