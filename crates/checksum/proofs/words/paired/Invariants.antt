-- Invariant: the first word and the pairs behind it that are passed are in the two.
use Rattle.std.proofs.Common.{ℕ, ◌+◌, ◌*◌, get_or}
use Rattle.checksum.specs.Crc.{shifts}
use Rattle.checksum.specs.Fold.{Alike, joined, chain}
use Rattle.checksum.proofs.words.paired.Given as goal

abbrev pub invariant-loop-k : goal.invariant-loop-k
invariant-loop-k l = Alike (shifts 64 (chain 0 (λ (i : ℕ). get_or l.v i 0) (2 * l.k + 1))) (shifts 64 (joined 64 l.low l.high))
