-- The records of a form by their offsets, and what the loops over them read and store.
use Rattle.std.specs.Prelude.{ℕ, ◌≤◌, ◌<◌, ◌≡◌, List, [], ◌∷◌, length}
use Rattle.avl.specs.Records.{AvlRecord}
use Rattle.store.specs.Stores.{Stored}
use Rattle.store.specs.Entries.{Entry, kind_at, body_at, next_at, entries_at}
use Rattle.tlv.specs.Decoding.{behind, groups_of, fixed_of, records_of}
use Rattle.rebuild.specs.declared.Run.{Run}

-- those behind the runs of these kinds
unfoldable pub behind_all : List ℕ → List Entry → List Entry
behind_all [] es = es
behind_all (k ∷ ks) es = behind_all ks (behind k es)

-- the record whose entry 101 is at an offset
abbrev pub record_at : List ℕ → List ℕ → ℕ → AvlRecord
record_at ks f at = record { fixed = fixed_of (body_at f at); groups = groups_of ks (entries_at f (next_at f at)) }

-- the first entry 101 from `from` on is at `at`, or there is none
pub record RecordFrom (f : List ℕ) (from at : ℕ) : Type 0 where
  pub ahead : from ≤ at
  pub starts : at < length f → kind_at f at ≡ 101
  pub records : (ks : List ℕ) → records_of ks (entries_at f at) ≡ records_of ks (entries_at f from)

-- the entries from `from` on are read up to `rest`, the bytes of what was read are stored, and `n` is told
pub record Goes (f : List ℕ) (from : ℕ) (rest : List Entry) (bytes before after : List ℕ) (to n : ℕ) (r : Run) : Type 0 where
  pub stored : Stored bytes before after to r.to
  pub ahead : from ≤ r.from
  pub left : entries_at f r.from ≡ rest
  pub told : r.count ≡ n
