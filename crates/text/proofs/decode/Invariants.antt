-- Invariant: the bytes that are left, stored here, give the end result.
use Rattle.text.proofs.HexLaws.{DecodeLeft}
use Rattle.text.proofs.decode.Given as goal

abbrev pub invariant-loop-c : goal.invariant-loop-c
invariant-loop-c l = DecodeLeft l.s l.initial.out l.out l.to l.high l.c-index
