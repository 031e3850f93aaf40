use Rattle.contents.specs.Words.{title_result}
use Rattle.contents.proofs.record_count.Goals as goal

pub returns : goal.returns
unfolding title_result
returns c = c.bits.ensures.value
