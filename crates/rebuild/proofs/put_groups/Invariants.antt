use Rattle.rebuild.proofs.RunLaws.{Grouping}
use Rattle.rebuild.proofs.put_groups.Given as goal

abbrev pub invariant-loop-k : goal.invariant-loop-k
invariant-loop-k l = Grouping l.w.widths l.f l.fn.from l.initial.out l.fn.to l.out l.from l.to l.count l.k
