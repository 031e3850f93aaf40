use Rattle.std.proofs.Common.{◌∙◌}
use Rattle.say.proofs.PageLaws.{left_as, left-put, next}
use Rattle.say.proofs.Page.put_text.Goals as goal

pub loop-b-preserved : goal.loop-b-preserved
loop-b-preserved c = (c.put.ensures.same ∙ c.loop-b.invariant.0, left-put (left_as (next _ _ c.loop-b-test.true) c.loop-b.invariant.1) c.put.ensures.page)
