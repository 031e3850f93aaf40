-- The codec, or another.
use borrow.Author.Tests.{eq-eqb, ne_eqb}
use Rattle.command.proofs.width_in.Goals as goal

pub returns-then-codec-one : goal.returns-then-codec-one
returns-then-codec-one c = simp (eq-eqb _ _ c.if-codec-one.true)

pub returns-else-codec-one : goal.returns-else-codec-one
returns-else-codec-one c = simp (ne_eqb _ _ c.if-codec-one.false)
