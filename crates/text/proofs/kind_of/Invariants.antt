-- Invariant: what is left, with the digits passed, is of the same kind as the whole.
use Rattle.text.proofs.HexLaws.{kind_from}
use Rattle.text.specs.Hex.{kind_of}
use Rattle.std.proofs.Common.{◌≡◌, ◌≤◌, drop}
use Rattle.text.proofs.kind_of.Given as goal

abbrev pub invariant-loop-c : goal.invariant-loop-c
invariant-loop-c l = (l.n ≤ l.c-index) × (kind_from l.n (drop l.c-index l.s) ≡ kind_of l.s)
