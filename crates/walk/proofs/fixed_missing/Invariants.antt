-- Invariant: the first field that is missing is one of those that are left.
use Rattle.std.specs.Prelude.{Err}
use Prim.Native.Nat.{◌≤◌}
use mathlib.Core.Path.{◌≡◌}
use lib.ListN.{length, drop}
use Rattle.wire.specs.Reading.{walked}
use Rattle.wire.proofs.Walking.{short}
use Rattle.avl.specs.RecordReader.{fixed_fields}
use Rattle.walk.proofs.WalkLaws.{field_widths, missing_from}
use Rattle.walk.proofs.fixed_missing.Given as goal

abbrev pub invariant-loop-width : goal.invariant-loop-width
invariant-loop-width l = (l.field ≤ length l.s) × (Err (short (missing_from l.s (drop l.width-index (field_widths l.fn.w.widths)) l.field)) ≡ walked (fixed_fields l.fn.w.widths l.s l.at))
