use Rattle.std.proofs.Common.{◌∙◌}
use Rattle.say.specs.Rendering.{quoted}
use Rattle.say.proofs.RenderingLaws.{closing-next, closing-last}
use Rattle.say.proofs.PageLaws.{left_as, left-put, left-done, page-then}
use Rattle.say.proofs.Page.put_quoted.Goals as goal

pub loop-b-preserved : goal.loop-b-preserved
loop-b-preserved c = (c.put_quotable.ensures.same ∙ c.loop-b.invariant.0, left-put (left_as (closing-next _ _ c.loop-b-test.true) c.loop-b.invariant.1) c.put_quotable.ensures.page)

pub returns-clause-page : goal.returns-clause-page
unfolding quoted
returns-clause-page c = page-then c.put.ensures.page (left-done (left-put (left_as (closing-last _ _ c.loop-b-test.false) c.loop-b.invariant.1) c.put-2.ensures.page))
