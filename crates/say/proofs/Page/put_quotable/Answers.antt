-- A backslash, x and the byte's two digits.
use Rattle.say.specs.Rendering.{quotable}
use Rattle.say.proofs.PageLaws.{page-then}
use Rattle.say.proofs.Page.put_quotable.Goals as goal

pub returns-clause-page : goal.returns-clause-page
unfolding quotable
returns-clause-page c = simp (← c.is_plain.ensures, c.if-is_plain.false) (page-then c.put_text.ensures.page c.put_digits.ensures.page)
