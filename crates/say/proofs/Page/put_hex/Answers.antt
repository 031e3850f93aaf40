use Rattle.std.proofs.Common.{◌∙◌}
use Rattle.say.proofs.RenderingLaws.{hex-next, hex-last}
use Rattle.say.proofs.PageLaws.{left_as, left-put, left-done}
use Rattle.say.proofs.Page.put_hex.Goals as goal

pub loop-b-preserved : goal.loop-b-preserved
loop-b-preserved c = (c.put_digits.ensures.same ∙ c.loop-b.invariant.0, left-put (left_as (hex-next _ _ c.loop-b-test.true) c.loop-b.invariant.1) c.put_digits.ensures.page)

pub returns-clause-page : goal.returns-clause-page
returns-clause-page c = left-done (left_as (hex-last _ _ c.loop-b-test.false) c.loop-b.invariant.1)
