-- The length, then the digits.
use Rattle.std.specs.Prelude.{Err}
use Rattle.command.proofs.WriterLaws.{told-value}
use Rattle.command.specs.Writing.{given_imei}
use Rattle.wire.proofs.Accepting.{check-passed}
use Rattle.wire.specs.Answers.{check_at, unplaced}
use Rattle.wire.specs.Imei.{text_digit}
use native.Mathlib.Omega.{arith}
use borrow.Author.Tests.{eq-eqb, ne_eqb}
use mathlib.Core.Path.{sym, ap, ◌∙◌}
use Rattle.command.proofs.given_imei.Goals as goal

pub returns-then-s-digit_count : goal.returns-then-s-digit_count
unfolding given_imei check_at
returns-then-s-digit_count c = simp (c.of.ensures, ne_eqb _ _ (λ e. c.if-s-digit_count.true (e ∙ sym c.digit_count.ensures)))

pub digits_of-requires : goal.digits_of-requires
digits_of-requires c = omega (arith, c.if-s-digit_count.false, c.digit_count.ensures, c.requires)

pub returns-in-Ok : goal.returns-in-Ok
unfolding given_imei unplaced
returns-in-Ok c =
    ap unplaced c.in-Ok.ensures
    ∙ told-value 10 _ text_digit c.args.s.now 0
    ∙ sym (check-passed _ 15 _ _ (eq-eqb _ _ (c.if-s-digit_count.false ∙ c.digit_count.ensures)))

pub returns-in-Err : goal.returns-in-Err
unfolding given_imei unplaced
returns-in-Err c =
    ap Err c.of-in-Err.ensures
    ∙ ap unplaced c.in-Err.ensures
    ∙ told-value 10 _ text_digit c.args.s.now 0
    ∙ sym (check-passed _ 15 _ _ (eq-eqb _ _ (c.if-s-digit_count.false ∙ c.digit_count.ensures)))
