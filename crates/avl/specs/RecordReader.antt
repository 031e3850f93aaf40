-- The walk: how records are read, field by field, each refusal in the paper's order.
use Rattle.std.specs.Prelude.{ℕ, zero, suc, ◌+◌, List, [], ◌∷◌, length, eqb, leb}
use Rattle.wire.specs.Numbers.{pick}
use Rattle.wire.specs.Reading.{Read, got, bad, Reader, ◌>>=◌, ◌>>◌, pure, here, require, number, bytes, up_to, repeat}
use Rattle.avl.specs.declared.Widths.{Widths}
use Rattle.avl.specs.Codecs.{kinds}
use Rattle.avl.specs.Records.{Element, Fixed, AvlRecord, element_count}

-- the length of a value: as the kind says, or in two bytes before a variable one
unfoldable pub value_size : ℕ → Reader ℕ
value_size kind = pick (eqb kind 9) (number 2) (pure kind)

unfoldable pub element : Widths → ℕ → Reader Element
element w kind = do
  id ← number w.id
  size ← value_size kind
  value ← bytes size
  pure (record { id = id; value = value })

unfoldable pub group : Widths → ℕ → Reader (List Element)
group w kind = do
  count ← number w.count
  repeat count (element w kind)

unfoldable pub groups : Widths → List ℕ → Reader (List (List Element))
groups w [] = pure []
groups w (k ∷ ks) = do
  g ← group w k
  gs ← groups w ks
  pure (g ∷ gs)

unfoldable pub fixed_fields : Widths → Reader Fixed
fixed_fields w = do
  timestamp ← number 8
  priority ← up_to 1 2 10
  longitude ← number 4
  latitude ← number 4
  altitude ← number 2
  angle ← number 2
  satellites ← number 1
  speed ← number 2
  event ← number w.event
  generation ← up_to w.generation 7 11
  pure (record {
    timestamp = timestamp;
    priority = priority;
    longitude = longitude;
    latitude = latitude;
    altitude = altitude;
    angle = angle;
    satellites = satellites;
    speed = speed;
    event = event;
    generation = generation;
  })

unfoldable pub avl_record : ℕ → Widths → Reader AvlRecord
avl_record longest w = do
  start ← here
  fixed ← fixed_fields w
  total ← number w.count
  gs ← groups w (kinds w)
  end ← here
  require (eqb total (element_count gs)) 9 start
  require (leb end (start + longest)) 12 start
  pure (record { fixed = fixed; groups = gs })

-- a record's fields as they stand, its own rules left out: what is read once it is judged
unfoldable pub plain_record : Widths → Reader AvlRecord
plain_record w = do
  fixed ← fixed_fields w
  total ← number w.count
  gs ← groups w (kinds w)
  pure (record { fixed = fixed; groups = gs })

-- a refusal inside the record with this index
unfoldable pub tagged : {A : Type 0} → ℕ → Read A → Read A
tagged index (got a next) = got a next
tagged index (bad x) = bad (record { number = x.number; index = index; place = x.place })

unfoldable pub in_record : {A : Type 0} → ℕ → Reader A → Reader A
in_record index m s at = tagged index (m s at)

-- `n` records, the first of which has this index
unfoldable pub avl_records : ℕ → Widths → ℕ → ℕ → Reader (List AvlRecord)
avl_records longest w index zero = pure []
avl_records longest w index (suc n) = do
  r ← in_record index (avl_record longest w)
  rs ← avl_records longest w (suc index) n
  pure (r ∷ rs)

-- left-over bytes: 8 at the number of records
unfoldable pub at_end : ℕ → Reader (Unit {0})
at_end count s at = pick (eqb at (length s)) (got tt at) (bad (record { number = 8; index = count; place = at }))

-- the records that fill the space between the counts
unfoldable pub all_records : ℕ → Widths → ℕ → Reader (List AvlRecord)
all_records longest w count = do
  rs ← avl_records longest w 0 count
  at_end count
  pure rs
