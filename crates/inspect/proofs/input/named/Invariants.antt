-- Invariant: the place among the words that are left gives the place among all.
use Rattle.inspect.proofs.WordLaws.{TableLeft}
use Rattle.inspect.proofs.input.named.Given as goal

abbrev pub invariant-loop-e : goal.invariant-loop-e
invariant-loop-e g l = TableLeft (λ e. e.0.now) l.w l.table l.e-index
