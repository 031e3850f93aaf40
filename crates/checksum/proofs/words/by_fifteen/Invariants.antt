-- Invariant: the bytes before the step's are in the fifteen words.
use Rattle.std.proofs.Common.{◌+◌, ◌*◌}
use Rattle.checksum.specs.Fold.{Fifteen, held, Reached}
use Rattle.checksum.proofs.words.by_fifteen.Given as goal

abbrev pub invariant-loop-k : goal.invariant-loop-k
invariant-loop-k l = Fifteen l.v × Reached l.s (l.from + 120 * l.k) (held l.v) l.parity
