-- One part behind another.
use Rattle.say.specs.Rendering.{onward}
use Rattle.say.proofs.PageLaws.{page-then}
use Rattle.say.proofs.Page.put_onward.Goals as goal

pub returns-clause-page : goal.returns-clause-page
unfolding onward
returns-clause-page c = page-then (page-then (page-then (page-then c.put_text.ensures.page (rw c.first.ensures at c.put_hex.ensures.page)) c.put_text-2.ensures.page) (rw (c.first-2.ensures, c.behind.ensures) at c.put_group.ensures.page)) c.put.ensures.page
