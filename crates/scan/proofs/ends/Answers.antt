use Rattle.scan.specs.Fields.{ends_at}
use borrow.Author.Tests.{le-leb, lt-leb}
use mathlib.Core.Path.{sym}
use Rattle.scan.proofs.ends.Goals as goal

pub returns-then-t-at : goal.returns-then-t-at
unfolding ends_at
returns-then-t-at c = sym (simp (le-leb _ _ c.if-t-at.true))

pub returns-else-t-at : goal.returns-else-t-at
unfolding ends_at
returns-else-t-at c = sym (simp (lt-leb _ _ c.if-t-at.false))
