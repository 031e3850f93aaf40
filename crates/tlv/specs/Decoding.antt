-- The data that a TLV form stands for: a lenient reading, which is right for every form that a data field has.
use Rattle.std.specs.Prelude.{ℕ, List, [], ◌∷◌, get_or, drop, eqb}
use Rattle.wire.specs.Numbers.{little_at, pick}
use Rattle.avl.specs.Codecs.{widths_of, kinds}
use Rattle.avl.specs.Records.{Element, Fixed, AvlRecord}
use Rattle.avl.specs.DataField.{AvlData}
use Rattle.store.specs.Entries.{Entry, entries_of}

unfoldable pub entry_element : Entry → Element
entry_element e = record { id = little_at e.body 0 2; value = drop 2 e.body }

-- the elements of a kind at the front
unfoldable pub run : ℕ → List Entry → List Element
run kind [] = []
run kind (e ∷ es) = pick (eqb e.kind kind) (entry_element e ∷ run kind es) []

-- the entries behind them
unfoldable pub behind : ℕ → List Entry → List Entry
behind kind [] = []
behind kind (e ∷ es) = pick (eqb e.kind kind) (behind kind es) (e ∷ es)

unfoldable pub groups_of : List ℕ → List Entry → List (List Element)
groups_of [] es = []
groups_of (k ∷ ks) es = run k es ∷ groups_of ks (behind k es)

-- the fixed fields of an entry 101
unfoldable pub fixed_of : List ℕ → Fixed
fixed_of b =
    record {
      timestamp = little_at b 0 8;
      priority = little_at b 8 1;
      longitude = little_at b 9 4;
      latitude = little_at b 13 4;
      altitude = little_at b 17 2;
      angle = little_at b 19 2;
      satellites = little_at b 21 1;
      speed = little_at b 22 2;
      event = little_at b 24 2;
      generation = little_at b 26 1;
    }

-- an entry 101 starts a record; what is behind its groups up to the next 101 is left out
unfoldable pub records_of : List ℕ → List Entry → List AvlRecord
records_of ks [] = []
records_of ks (e ∷ es) = pick (eqb e.kind 101) (record { fixed = fixed_of e.body; groups = groups_of ks es } ∷ records_of ks es) (records_of ks es)

-- the codec is the first byte of the first entry
unfoldable pub data_of : List Entry → AvlData
data_of [] = record { codec = 0; records = [] }
data_of (e ∷ es) = record { codec = get_or e.body 0 0; records = records_of (kinds (widths_of (get_or e.body 0 0))) es }

unfoldable pub decoded : List ℕ → AvlData
decoded f = data_of (entries_of f)
