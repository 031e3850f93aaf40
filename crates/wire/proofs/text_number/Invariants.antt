use Rattle.wire.proofs.TextNumber.{TextLeft}
use Rattle.wire.proofs.text_number.Given as goal

abbrev pub invariant-loop-b : goal.invariant-loop-b
invariant-loop-b l = TextLeft l.n l.s l.at l.value l.b-index
