-- Each way out is a law of the escape.
use Rattle.scan.proofs.TagLaws.{digit-small, escape-short, escape-first, escape-second, escape-plain, escape-good}
use native.Mathlib.Omega.{arith}
use mathlib.Core.Path.{sym, ◌∙◌}
use Rattle.scan.proofs.escape_at.Goals as goal

pub returns-then-t-i-lt2 : goal.returns-then-t-i-lt2
returns-then-t-i-lt2 c = escape-short c.args.t.now c.args.i c.if-t-i-lt2.true

pub overflow_mul-b : goal.overflow_mul-b
overflow_mul-b c = omega (arith, digit-small _ (sym c.hex_value.ensures ∙ c.in_ok-h.was))

pub overflow_add-b : goal.overflow_add-b
overflow_add-b c = omega (arith, digit-small _ (sym c.hex_value.ensures ∙ c.in_ok-h.was), digit-small _ (sym c.hex_value-2.ensures ∙ c.in_ok-l.was))

pub returns-then-is_plain : goal.returns-then-is_plain
returns-then-is_plain c = escape-plain c.args.t.now c.args.i (omega arith) (sym c.hex_value.ensures ∙ c.in_ok-h.was) (sym c.hex_value-2.ensures ∙ c.in_ok-l.was) (sym c.is_plain.ensures ∙ c.if-is_plain.true)

pub returns-else-is_plain : goal.returns-else-is_plain
returns-else-is_plain c = escape-good _ _ (omega arith) (sym c.hex_value.ensures ∙ c.in_ok-h.was) (sym c.hex_value-2.ensures ∙ c.in_ok-l.was) (sym c.is_plain.ensures ∙ c.if-is_plain.false)

pub returns-in_err-l : goal.returns-in_err-l
returns-in_err-l c = rw c.from_residual-in_err-l.ensures (escape-second c.args.t.now c.args.i (omega arith) (sym c.hex_value.ensures ∙ c.in_ok-h.was) (sym c.hex_value-2.ensures ∙ c.in_err-l.was))

pub returns-in_err-h : goal.returns-in_err-h
returns-in_err-h c = rw c.from_residual.ensures (escape-first c.args.t.now c.args.i (omega arith) (sym c.hex_value.ensures ∙ c.in_err-h.was))
