use mathlib.Core.Path.{sym, ap, ◌∙◌}
use Rattle.line.specs.LineReader.{positive}
use Rattle.scan.proofs.DegreesLaws.{positive-read, positive-over}
use Rattle.scan.specs.Fields.{signed_as}
use Rattle.scan.proofs.positive_of.Goals as goal

pub returns-in_err-n : goal.returns-in_err-n
unfolding signed_as
returns-in_err-n c = c.from_residual.ensures ∙ ap (signed_as positive) (sym c.in_err-n.was)

pub returns-in_err-degrees : goal.returns-in_err-degrees
returns-in_err-degrees c = c.from_residual-in_err-degrees.ensures ∙ positive-over c.in_ok-n.n _ _ c.try_from.ensures (sym c.ok.ensures.value ∙ c.in_err-degrees.was) ∙ ap (signed_as positive) (sym c.in_ok-n.was)

pub returns : goal.returns
returns c = positive-read c.in_ok-n.n _ _ c.try_from.ensures (sym c.ok.ensures.value ∙ c.in_ok-degrees.was) ∙ ap (signed_as positive) (sym c.in_ok-n.was)
