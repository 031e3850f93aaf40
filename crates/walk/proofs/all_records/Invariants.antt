-- Invariant: the answer from the record `i` on is the answer of the whole.
use Prim.Native.Nat.{◌≤◌}
use mathlib.Core.Path.{◌≡◌}
use lib.ListN.{length}
use Rattle.walk.specs.Walks.{spanned}
use Rattle.avl.specs.RecordReader.{all_records}
use Rattle.walk.proofs.WalkLaws.{answer_from}
use Rattle.walk.proofs.all_records.Given as goal

abbrev pub invariant-loop-i : goal.invariant-loop-i
invariant-loop-i l =
    (l.next ≤ length l.s) × (answer_from l.w.widths l.s l.count l.want l.longest l.i l.span l.next ≡ spanned l.w.widths l.want (all_records l.longest l.w.widths l.count l.s 0))
