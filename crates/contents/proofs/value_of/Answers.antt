use Rattle.contents.specs.Words.{value_of}
use Rattle.contents.proofs.value_of.Goals as goal

pub returns : goal.returns
unfolding value_of
returns c = λ i. record { id = c.bits.ensures.value i; kind = c.bits-2.ensures.value i; offset = c.bits-3.ensures.value i; size = c.bits-4.ensures.value i }
