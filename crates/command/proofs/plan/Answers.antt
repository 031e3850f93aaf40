-- The tests of the definition, one by one.
use Rattle.wire.proofs.Passing.{given_back}
use native.Mathlib.Omega.{arith}
use mathlib.Core.Path.{sym, ◌∙◌}
use borrow.Author.Tests.{le-leb, lt-leb}
use Rattle.wire.specs.Answers.{check_at, on_accepted}
use Rattle.command.specs.Writing.{packet_of, bytes_within}
use Rattle.command.specs.Walks.{planned}
use Rattle.command.proofs.WriterLaws.{length-field}
use Rattle.command.proofs.CommandLaws.{layout-narrow}
use Rattle.command.proofs.plan.Goals as goal

pub returns-then-not-allows : goal.returns-then-not-allows
unfolding planned on_accepted bytes_within check_at
returns-then-not-allows c time = simp (c.of.ensures, c.requires, sym c.allows.ensures ∙ c.if-not-allows.true)

pub given_imei-requires : goal.given_imei-requires
given_imei-requires c = (layout-narrow _ c.requires).0

pub returns-then-not-allows_text : goal.returns-then-not-allows_text
unfolding planned on_accepted bytes_within check_at packet_of
returns-then-not-allows_text c time = simp (c.of-then-not-allows_text.ensures, c.requires, sym c.allows.ensures ∙ c.if-not-allows.false, sym c.in_ok-n.ensures, sym c.allows_text.ensures ∙ c.if-not-allows_text.true)

pub field_size-whole-requires : goal.field_size-whole-requires
field_size-whole-requires c = layout-narrow _ c.requires

pub overflow_add-whole : goal.overflow_add-whole
overflow_add-whole c = omega (arith, layout-narrow _ c.requires)

pub returns-then-limits-whole : goal.returns-then-limits-whole
unfolding planned on_accepted bytes_within check_at packet_of
returns-then-limits-whole c time = simp (c.of-then-limits-whole.ensures, c.requires, sym c.allows.ensures ∙ c.if-not-allows.false, sym c.in_ok-n.ensures, sym c.allows_text.ensures ∙ c.if-not-allows_text.false, length-field, ← c.field_size-whole.ensures, lt-leb _ _ c.if-limits-whole.true)

pub returns : goal.returns
unfolding planned on_accepted bytes_within check_at packet_of
returns c time = simp (c.requires, sym c.allows.ensures ∙ c.if-not-allows.false, sym c.in_ok-n.ensures, sym c.allows_text.ensures ∙ c.if-not-allows_text.false, length-field, ← c.field_size-whole.ensures, le-leb _ _ c.if-limits-whole.false)

pub returns-in_err-n : goal.returns-in_err-n
unfolding planned on_accepted bytes_within check_at
returns-in_err-n c time = simp (given_back c.from_residual.ensures.1, c.requires, sym c.allows.ensures ∙ c.if-not-allows.false, sym c.in_err-n.ensures)
