-- Invariant: the bytes before the step's are in the two words, and whole steps are left.
use Rattle.std.proofs.Common.{◌≡◌, ◌+◌, ◌-◌, ◌*◌, ◌%◌, ◌≤◌, length}
use Rattle.checksum.specs.Fold.{joined, Reached}
use Rattle.checksum.proofs.words.to_the_end.Given as goal

abbrev pub invariant-loop-k : goal.invariant-loop-k
invariant-loop-k l = (l.at ≤ length l.s) × ((length l.s - l.at) % 16 ≡ 0) × Reached l.s (l.at + 16 * l.k) (joined 64 l.low l.high) l.parity
