use lib.ListN.{length}
use Prim.Native.Nat.{◌-◌, ◌^◌, ◌<◌}
use Rattle.scan.proofs.RunLaws.{RunLeft}
use Rattle.scan.proofs.digit_run.Given as goal

abbrev pub invariant-loop-i : goal.invariant-loop-i
invariant-loop-i l = RunLeft l.t l.at l.n l.i × (l.n < 2 ^ 64)

abbrev pub decreases-loop-i : goal.decreases-loop-i
decreases-loop-i l = length l.t - l.i
