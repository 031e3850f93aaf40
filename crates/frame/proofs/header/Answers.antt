use Rattle.frame.specs.Frame.{field_length}
use Rattle.wire.specs.Answers.{check_at}
use mathlib.Core.Path.{sym, ◌∙◌}
use borrow.Author.Tests.{le-leb, lt-leb, eq-eqb, ne_eqb}
use Rattle.frame.proofs.header.Goals as goal

pub returns-then-zeros-ne0 : goal.returns-then-zeros-ne0
unfolding check_at
returns-then-zeros-ne0 c = simp (c.of.ensures, ne_eqb _ _ (λ e. c.if-zeros-ne0.true (c.be32-zeros.ensures ∙ e)))

pub returns-then-size-lt3 : goal.returns-then-size-lt3
unfolding check_at field_length
returns-then-size-lt3 c = simp (c.at.ensures, eq-eqb _ _ (sym c.be32-zeros.ensures ∙ c.if-zeros-ne0.false), ← c.be32-size.ensures, lt-leb _ _ c.if-size-lt3.true)

pub returns-then-largest-size : goal.returns-then-largest-size
unfolding check_at field_length
returns-then-largest-size c = simp (c.at-then-largest-size.ensures, eq-eqb _ _ (sym c.be32-zeros.ensures ∙ c.if-zeros-ne0.false), ← c.be32-size.ensures, le-leb _ _ c.if-size-lt3.false, lt-leb _ _ c.if-largest-size.true)

pub returns : goal.returns
unfolding check_at field_length
returns c = simp (eq-eqb _ _ (sym c.be32-zeros.ensures ∙ c.if-zeros-ne0.false), ← c.be32-size.ensures, le-leb _ _ c.if-size-lt3.false, le-leb _ _ c.if-largest-size.false)
