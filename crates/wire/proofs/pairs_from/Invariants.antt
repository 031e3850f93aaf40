-- Invariant: the pairs that are left, read on from the value, give the whole number.
use Prim.Native.Nat.{◌-◌, ◌^◌}
use Rattle.wire.proofs.DigitLaws.{DigitsLeft, digits_from}
use Rattle.wire.specs.Imei.{pair_up_to}
use Rattle.wire.proofs.pairs_from.Given as goal

abbrev pub invariant-loop-i : goal.invariant-loop-i
invariant-loop-i l = DigitsLeft (pair_up_to 9) 100 (100 ^ 8) (l.n - l._i) l.value l.s l.next (digits_from (pair_up_to 9) 100 l.n l.first l.s l.at)
