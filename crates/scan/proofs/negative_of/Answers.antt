use mathlib.Core.Path.{sym, ap, ◌∙◌}
use Rattle.line.specs.LineReader.{negative}
use Rattle.scan.proofs.DegreesLaws.{negative-read, negative-none, negative-over}
use Rattle.scan.specs.Fields.{signed_as}
use Rattle.scan.proofs.negative_of.Goals as goal

pub returns-in_err-n : goal.returns-in_err-n
unfolding signed_as
returns-in_err-n c = c.from_residual.ensures ∙ ap (signed_as negative) (sym c.in_err-n.was)

pub returns-then-n-le2147483648 : goal.returns-then-n-le2147483648
returns-then-n-le2147483648 c = negative-read c.in_ok-n.n _ c.if-n-ge1.true c.if-n-le2147483648.true ∙ ap (signed_as negative) (sym c.in_ok-n.was)

pub returns-else-n-le2147483648 : goal.returns-else-n-le2147483648
returns-else-n-le2147483648 c = negative-over c.in_ok-n.n _ c.if-n-ge1.true c.if-n-le2147483648.false ∙ ap (signed_as negative) (sym c.in_ok-n.was)

pub returns-else-n-ge1 : goal.returns-else-n-ge1
returns-else-n-ge1 c = negative-none c.in_ok-n.n _ c.if-n-ge1.false ∙ ap (signed_as negative) (sym c.in_ok-n.was)
