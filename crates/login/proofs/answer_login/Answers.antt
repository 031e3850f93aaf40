-- One byte, where there is room for one.
use Rattle.std.specs.Prelude.{Err}
use mathlib.Core.Path.{ap, sym, ◌∙◌}
use mathlib.Core.List.{[], ◌∷◌}
use Rattle.wire.proofs.BufferLaws.{writing-done, writing-short, leaving-done, leaving-short, sets-front}
use Rattle.login.proofs.answer_login.Goals as goal

pub returns-then-out-lt1 : goal.returns-then-out-lt1
returns-then-out-lt1 c =
    record { result_value = rw (← c.answer_byte-answer.ensures) (ap Err c.of.ensures ∙ sym (writing-short _ _ c.if-out-lt1.true)); out_after = rw (← c.answer_byte-answer.ensures) (sym (leaving-short _ _ c.if-out-lt1.true)) }

pub returns : goal.returns
returns c =
    let stored = sets-front (c.answer_byte-answer.result ∷ []) c.args.out.now c.if-out-lt1.false in record { result_value = rw (← c.answer_byte-answer.ensures) (sym (writing-done _ _ c.if-out-lt1.false)); out_after = rw (← c.answer_byte-answer.ensures) (stored ∙ sym (leaving-done _ _ c.if-out-lt1.false)) }
