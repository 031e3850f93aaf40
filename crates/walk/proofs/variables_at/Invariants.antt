-- Invariant: the walk over the elements that are left answers as the walk over all.
use Prim.Native.Nat.{◌-◌, ◌≤◌}
use mathlib.Core.Path.{◌≡◌}
use lib.ListN.{length}
use Rattle.wire.specs.Reading.{walked, repeat}
use Rattle.avl.specs.RecordReader.{element}
use Rattle.walk.proofs.variables_at.Given as goal

abbrev pub invariant-loop-i : goal.invariant-loop-i
invariant-loop-i l = (l.next ≤ length l.s) × (walked (repeat (l.n - l._i) (element l.w.widths 9) l.s l.next) ≡ walked (repeat l.n (element l.w.widths 9) l.s l.at))
