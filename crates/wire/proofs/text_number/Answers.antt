use Rattle.std.specs.Prelude.{Err}
use mathlib.Core.Path.{ap}
use Rattle.std.proofs.Common.{◌∙◌, arith}
use Rattle.wire.proofs.Widths.{bytes-fit}
use Rattle.wire.proofs.TextNumber.{text-start, text-below, text-done, text-turn, text-wrong, text-digits}
use Rattle.wire.proofs.text_number.Goals as goal

pub loop-b-init : goal.loop-b-init
loop-b-init c = text-start c.requires.0 c.requires.1

pub overflow_add-at : goal.overflow_add-at
overflow_add-at c =
    omega (arith, c.leading_digits.ensures, text-digits c.requires.1 c.loop-b.invariant (bytes-fit c.args.s.now c.type_inv.s) c.loop-b-test.true c.if-d-gt9.true)

pub returns-then-d-gt9 : goal.returns-then-d-gt9
returns-then-d-gt9 c =
    let found = c.leading_digits.ensures ∙ text-digits c.requires.1 c.loop-b.invariant (bytes-fit c.args.s.now c.type_inv.s) c.loop-b-test.true c.if-d-gt9.true in
    ap Err c.at.ensures ∙ text-wrong c.requires.1 c.loop-b.invariant (bytes-fit c.args.s.now c.type_inv.s) c.loop-b-test.true found c.if-d-gt9.true

pub overflow_mul-value : goal.overflow_mul-value
overflow_mul-value c =
    omega (arith, text-below c.requires.1 c.loop-b.invariant (bytes-fit c.args.s.now c.type_inv.s) c.loop-b-test.true c.if-d-gt9.false)

pub overflow_add-value : goal.overflow_add-value
overflow_add-value c =
    omega (arith, c.from.ensures, text-below c.requires.1 c.loop-b.invariant (bytes-fit c.args.s.now c.type_inv.s) c.loop-b-test.true c.if-d-gt9.false)

pub loop-b-preserved : goal.loop-b-preserved
loop-b-preserved c =
    simp c.from.ensures (text-turn c.requires.1 c.loop-b.invariant (bytes-fit c.args.s.now c.type_inv.s) c.loop-b-test.true c.if-d-gt9.false)

pub returns : goal.returns
returns c = text-done c.requires.1 c.loop-b.invariant c.loop-b.auto.b-index-end c.loop-b-test.false
