use lib.ListN.{length}
use Prim.Native.Nat.{◌-◌}
use Rattle.scan.proofs.AnswerLaws.{EndLeft}
use Rattle.scan.proofs.field_end.Given as goal

abbrev pub invariant-loop-i : goal.invariant-loop-i
invariant-loop-i l = EndLeft l.t l.at l.i

abbrev pub decreases-loop-i : goal.decreases-loop-i
decreases-loop-i l = length l.t - l.i
