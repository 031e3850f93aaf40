-- A byte that holds two digits.
use Rattle.std.specs.Prelude.{Err}
use mathlib.Core.Path.{ap}
use Rattle.std.proofs.Common.{◌≤◌, ◌+◌, ◌≡◌, length, get_or, sym, ◌∙◌, arith}
use borrow.Author.Tests.{le-leb, lt-leb}
use Rattle.wire.proofs.DigitLaws.{digit-missing, digit-wrong, digit-right}
use Rattle.wire.specs.Imei.{pair_up_to}
use Rattle.wire.proofs.pair_up_to.Goals as goal
use Rattle.wire.proofs.pair_up_to.Goals.{then-most-b-via-then-most-b, then-most-b-via-else-most-b+then-b-gt9}

pub returns-in_default : goal.returns-in_default
unfolding pair_up_to
returns-in_default c = ap Err c.at.ensures ∙ sym (digit-missing _ _ _ _ (omega (arith, c.in_default.ensures.lookup.3)))

pub returns-then-most-b : goal.returns-then-most-b
unfolding pair_up_to
returns-then-most-b c =
    let found = c.in-Some.ensures.lookup.3 in
    let there : c.args.at + 1 ≤ length c.args.s.now = omega (arith, found.0) in
    let byte : get_or c.args.s.now c.args.at 0 ≡ c.in-Some.field-0.now = sym (found.1 0) in
    ap Err c.at-then-most-b.ensures
    ∙ sym (digit-wrong _ _ _ _ there (
    rw byte
    (elim c.then-most-b.branch [
      | then-most-b-via-then-most-b w ↦ simp (lt-leb _ _ w.if-most-b.true)
      | then-most-b-via-else-most-b+then-b-gt9 w ↦ simp (le-leb _ _ w.if-most-b.false, lt-leb _ _ w.if-b-gt9.true)
    ])))

pub returns : goal.returns
unfolding pair_up_to
returns c =
    let found = c.in-Some.ensures.lookup.3 in
    let there : c.args.at + 1 ≤ length c.args.s.now = omega (arith, found.0) in
    let byte : get_or c.args.s.now c.args.at 0 ≡ c.in-Some.field-0.now = sym (found.1 0) in
    simp (c.from.ensures, found.1 0) (sym (digit-right _ _ _ _ there (rw byte (simp (le-leb _ _ c.if-most-b.false, le-leb _ _ c.if-b-gt9.false)))))
