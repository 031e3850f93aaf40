-- None where the row has none.
use borrow.Author.Tests.{eq-eqb, ne_eqb}
use Rattle.command.proofs.given_time.Goals as goal

pub returns-then-l-eq0 : goal.returns-then-l-eq0
returns-then-l-eq0 c = simp (eq-eqb _ _ c.if-l-eq0.true)

pub returns : goal.returns
returns c = simp (ne_eqb _ _ c.if-l-eq0.false)
