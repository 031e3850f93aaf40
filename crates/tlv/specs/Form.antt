-- The TLV form of a data field (the paper's house form): the codec, then for each record its fixed fields and its elements.
use Rattle.std.specs.Prelude.{ℕ, List, [], ◌∷◌, ◌++◌}
use Rattle.wire.specs.Numbers.{le}
use Rattle.wire.specs.Sequences.{fields, joined}
use Rattle.avl.specs.Codecs.{widths_of, kinds}
use Rattle.avl.specs.Records.{Element, Fixed, AvlRecord}
use Rattle.avl.specs.DataField.{AvlData}
use Rattle.store.specs.Entries.{Entry, entry_bytes}

-- kind 101, 27 bytes
unfoldable pub fixed_entry : Fixed → Entry
fixed_entry f =
    record {
      kind = 101;
      body =
          fields
          (le 8 f.timestamp
          ∷ le 1 f.priority
          ∷ le 4 f.longitude
          ∷ le 4 f.latitude
          ∷ le 2 f.altitude
          ∷ le 2 f.angle
          ∷ le 1 f.satellites
          ∷ le 2 f.speed
          ∷ le 2 f.event
          ∷ le 1 f.generation
          ∷ []);
    }

-- kind 1, 2, 4, 8 or 9: the ID, and the value's bytes in packet order
unfoldable pub element_entry : ℕ → Element → Entry
element_entry kind e = record { kind = kind; body = fields (le 2 e.id ∷ e.value ∷ []) }

unfoldable pub group_entries : ℕ → List Element → List Entry
group_entries kind [] = []
group_entries kind (e ∷ g) = element_entry kind e ∷ group_entries kind g

unfoldable pub groups_entries : List ℕ → List (List Element) → List Entry
groups_entries [] gs = []
groups_entries (k ∷ ks) [] = []
groups_entries (k ∷ ks) (g ∷ gs) = group_entries k g ++ groups_entries ks gs

unfoldable pub records_entries : List ℕ → List AvlRecord → List Entry
records_entries ks [] = []
records_entries ks (r ∷ rs) = fixed_entry r.fixed ∷ groups_entries ks r.groups ++ records_entries ks rs

-- kind 100, the codec, then the records
unfoldable pub form_entries : AvlData → List Entry
form_entries a = record { kind = 100; body = a.codec ∷ [] } ∷ records_entries (kinds (widths_of a.codec)) a.records

unfoldable pub form : AvlData → List ℕ
form a = joined entry_bytes (form_entries a)
