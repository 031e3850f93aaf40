use Rattle.scan.proofs.AnswerLaws.{StartLeft}
use Rattle.scan.proofs.field_start.Given as goal

abbrev pub invariant-loop : goal.invariant-loop
invariant-loop l = StartLeft l.t l.at l.n l.next l.counter
