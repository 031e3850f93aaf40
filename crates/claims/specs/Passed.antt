-- How many elements a look-up by ID passes (request 8), told by what the look-ups by number give.
use Rattle.std.specs.Prelude.{Err, Ok, ℕ, ◌+◌, ◌-◌, ◌≡◌, List, length}
use Rattle.wire.specs.declared.Limits.{Limits}
use Rattle.wire.specs.declared.Refusal.{Refusal}
use Rattle.wire.specs.Numbers.{Bytes}
use Rattle.wire.specs.Answers.{Answer}
use Rattle.element.specs.declared.RecordFields.{RecordFields}
use Rattle.lookup.specs.Lookups.{Source, tcp_source, udp_source, Found, record_by_number, value_by_number, value_by_id, passed_by_id, passed_by_last}

-- of a packet or datagram, the record with number `n`, and an ID
pub record PassedIn (source : Answer Source) (n id : ℕ) : Type 0 where
  -- the place, from 1, of the element found: that of number `k` is number `k + 1`, counted from 1
  pub place : (f : Found) → value_by_id source n id ≡ Ok f → (k : ℕ) × (value_by_number source n k ≡ Ok f) × (passed_by_id source n id ≡ k + 1)
  -- the number of elements in the record when there is none
  pub total : (x : Refusal) (r : RecordFields) → value_by_id source n id ≡ Err x → record_by_number source n ≡ Ok r → passed_by_id source n id ≡ r.elements
  -- a refused packet or a missing record counts 0
  pub none : (x : Refusal) → record_by_number source n ≡ Err x → passed_by_id source n id ≡ 0

abbrev pub last_of : Source → ℕ
last_of x = length x.content.records - 1

-- of two packets and an ID: those of the packets that are judged, each in its last record
pub record PassedAdded (newer older : Answer Source) (id : ℕ) : Type 0 where
  pub newer_refused : (x : Refusal) → newer ≡ Err x → passed_by_last id newer older ≡ 0
  -- the newer has the ID, and the older is not judged
  pub in_newer : (x : Source) (f : Found) → newer ≡ Ok x → value_by_id newer (last_of x) id ≡ Ok f → passed_by_last id newer older ≡ passed_by_id newer (last_of x) id
  -- it has not: those of the older are added, and a refused one adds nothing
  pub in_older : (x y : Source) (r : Refusal) → newer ≡ Ok x → value_by_id newer (last_of x) id ≡ Err r → older ≡ Ok y
      → passed_by_last id newer older ≡ passed_by_id newer (last_of x) id + passed_by_id older (last_of y) id
  pub older_refused : (x : Source) (r s : Refusal) → newer ≡ Ok x → value_by_id newer (last_of x) id ≡ Err r → older ≡ Err s
      → passed_by_last id newer older ≡ passed_by_id newer (last_of x) id

pub record PassedKept (limits : Limits) : Type 0 where
  pub packets : (p : List ℕ) (n id : ℕ) → Bytes p → PassedIn (tcp_source limits p) n id
  pub datagrams : (p : List ℕ) (n id : ℕ) → Bytes p → PassedIn (udp_source limits p) n id
  pub known : (newer older : List ℕ) (id : ℕ) → PassedAdded (tcp_source limits newer) (tcp_source limits older) id
