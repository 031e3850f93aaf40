use mathlib.Core.Path.{sym, ◌∙◌}
use native.Mathlib.Omega.{arith}
use Rattle.scan.proofs.DegreesLaws.{places-over, places-short, places-open, places-read, places-small}
use Rattle.scan.proofs.places_at.Goals as goal

pub overflow_add-result : goal.overflow_add-result
overflow_add-result c = let h = places-small c.args.t.now c.args.at c.args.whole c.requires.0 (sym c.in_ok-n.was ∙ c.digit_run.ensures) c.if-end-at.true in omega (arith, h, c.requires.1)

pub returns-then-ends : goal.returns-then-ends
returns-then-ends c = places-read c.args.t.now c.args.at c.args.whole c.requires.0 (sym c.in_ok-n.was ∙ c.digit_run.ensures) c.if-end-at.true (sym c.ends.ensures ∙ c.if-ends.true)

pub returns-in_err-n : goal.returns-in_err-n
returns-in_err-n c = c.from_residual.ensures ∙ places-over c.args.t.now c.args.at c.args.whole c.requires.0 (sym c.in_err-n.was ∙ c.digit_run.ensures)

pub returns-else-ends : goal.returns-else-ends
returns-else-ends c = places-open c.args.t.now c.args.at c.args.whole c.requires.0 (sym c.in_ok-n.was ∙ c.digit_run.ensures) (sym c.ends.ensures ∙ c.if-ends.false)

pub returns-else-end-at : goal.returns-else-end-at
returns-else-end-at c = places-short c.args.t.now c.args.at c.args.whole c.requires.0 (sym c.in_ok-n.was ∙ c.digit_run.ensures) c.if-end-at.false
