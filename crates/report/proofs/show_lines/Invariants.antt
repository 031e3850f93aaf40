-- Invariant: the refusal said, or else that of the lines that are left, is the refusal of the whole.
use Prim.Native.Nat.{◌-◌}
use mathlib.Core.Path.{◌≡◌}
use lib.ListN.{length}
use Rattle.report.proofs.BillingLaws.{LinesAhead}
use Rattle.report.proofs.show_lines.Given as goal

abbrev pub invariant-loop-at : goal.invariant-loop-at
invariant-loop-at g l = (length l.bytes ≡ 65536) × LinesAhead l.s l.first l.at l.k

abbrev pub decreases-loop-at : goal.decreases-loop-at
decreases-loop-at g l = length l.s - l.at
