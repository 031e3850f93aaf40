-- Invariant: the digits that are left, stored here, give the end result.
use Rattle.text.proofs.HexLaws.{EncodeLeft}
use Rattle.text.proofs.encode.Given as goal

abbrev pub invariant-loop-i : goal.invariant-loop-i
invariant-loop-i l = EncodeLeft l.s l.initial.out l.out l.i
