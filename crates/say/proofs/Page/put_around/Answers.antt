-- One part behind another.
use Rattle.say.specs.Rendering.{from_byte, around}
use Rattle.say.proofs.PageLaws.{page-then}
use Rattle.say.proofs.Page.put_around.Goals as goal

pub returns-clause-page : goal.returns-clause-page
unfolding from_byte around
returns-clause-page c = page-then (page-then (rw c.saturating_sub-from.ensures at c.put_rendered.ensures.page) (rw (c.behind.ensures, c.first.ensures, c.saturating_sub-from.ensures) at c.put_group.ensures.page)) (rw c.behind-2.ensures at c.put_onward.ensures.page)
