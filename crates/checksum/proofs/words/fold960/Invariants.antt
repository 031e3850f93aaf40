-- Invariant: the words before `k` are folded, those from `k` on are not.
use Rattle.checksum.proofs.ChainLaws.{Turning}
use Rattle.checksum.proofs.words.fold960.Given as goal

abbrev pub invariant-loop-k : goal.invariant-loop-k
invariant-loop-k l = Turning l.initial.v l.s l.at l.parity l.v l.p l.k
