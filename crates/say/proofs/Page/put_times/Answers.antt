use Rattle.std.proofs.Common.{◌∙◌}
use Rattle.say.proofs.PageLaws.{left_as, left-put, run-next}
use Rattle.say.proofs.Page.put_times.Goals as goal

pub loop-preserved : goal.loop-preserved
loop-preserved c = (c.put.ensures.same ∙ c.loop.invariant.0, left-put (left_as (run-next _ _ _ c.loop-test.true) c.loop.invariant.1) c.put.ensures.page)
