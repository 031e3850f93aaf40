use Rattle.store.specs.Entries.{entries_at}
use Rattle.tlv.specs.Decoding.{records_of}
use lib.ListN.{length}
use mathlib.Core.List.{List}
use mathlib.Core.Path.{◌≡◌}
use Prim.Native.Nat.{ℕ, ◌-◌, ◌≤◌}
use Rattle.rebuild.proofs.next_record.Given as goal

abbrev pub invariant-loop-from : goal.invariant-loop-from
invariant-loop-from l = (l.fn.from ≤ l.from) × ((ks : List ℕ) → records_of ks (entries_at l.f l.from) ≡ records_of ks (entries_at l.f l.fn.from))

abbrev pub decreases-loop-from : goal.decreases-loop-from
decreases-loop-from l = length l.f - l.from
