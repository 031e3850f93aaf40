use Rattle.rebuild.proofs.RunLaws.{Recording}
use lib.ListN.{length}
use Prim.Native.Nat.{◌-◌}
use Rattle.rebuild.proofs.put_records.Given as goal

abbrev pub invariant-loop-from : goal.invariant-loop-from
invariant-loop-from l = Recording l.w.widths l.f l.fn.from l.initial.out l.fn.to l.out l.from l.to l.count

abbrev pub decreases-loop-from : goal.decreases-loop-from
decreases-loop-from l = length l.f - l.from
