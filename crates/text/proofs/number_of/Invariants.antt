-- Invariant: what is left, behind the digits read, gives the number of the whole.
use Rattle.text.specs.Decimal.{number_from, number_read}
use Rattle.std.proofs.Common.{◌≡◌, drop}
use Rattle.text.proofs.number_of.Given as goal

abbrev pub invariant-loop-c : goal.invariant-loop-c
invariant-loop-c l = number_from l.limit l.n (drop l.c-index l.w) ≡ number_read l.limit l.w
