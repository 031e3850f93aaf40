use Rattle.print.proofs.TagLaws.{rest_of}
use lib.ListN.{drop}
use Rattle.store.proofs.StoredLaws.{Left}
use Rattle.print.proofs.store_quoted.Given as goal

abbrev pub invariant-loop-i : goal.invariant-loop-i
invariant-loop-i l = Left (rest_of (drop l.i l.src)) (rest_of l.src) l.initial.out l.out l.initial.next l.next
