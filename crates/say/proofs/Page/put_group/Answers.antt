-- A space and the hex text.
use Rattle.std.proofs.Common.{sym, ◌∙◌}
use Rattle.say.proofs.RenderingLaws.{group-some}
use Rattle.say.proofs.PageLaws.{page-then}
use Rattle.say.proofs.Page.put_group.Goals as goal

pub returns-clause-page : goal.returns-clause-page
returns-clause-page c = rw (group-some _ (sym c.is_empty.ensures ∙ c.if-is_empty.false)) (page-then c.put.ensures.page c.put_hex.ensures.page)
