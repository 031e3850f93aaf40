-- The rules of a record and its IO elements: what one is, the bytes it is written as, and what it has to keep.
use Rattle.std.specs.Prelude.{ℕ, ◌+◌, ◌^◌, ◌≤◌, ◌<◌, ◌≡◌, List, [], ◌∷◌, ◌++◌, length, eqb}
use Rattle.wire.specs.Numbers.{Bytes, be, pick}
use Rattle.wire.specs.Sequences.{fields, joined, All}
use Rattle.avl.specs.declared.Widths.{Widths}
use Rattle.avl.specs.Codecs.{kinds}

-- an IO element; its kind is that of its group
pub record Element : Type 0 where
  pub id : ℕ
  pub value : List ℕ

-- a record's fixed fields; coordinates and altitude as unsigned numbers of their bytes
pub record Fixed : Type 0 where
  pub timestamp : ℕ
  pub priority : ℕ
  pub longitude : ℕ
  pub latitude : ℕ
  pub altitude : ℕ
  pub angle : ℕ
  pub satellites : ℕ
  pub speed : ℕ
  pub event : ℕ
  pub generation : ℕ

-- an AVL record: its fixed fields, and a group of elements for each kind
pub record AvlRecord : Type 0 where
  pub fixed : Fixed
  pub groups : List (List Element)

-- how many elements the groups have: what the record's total (N of Total IO) says
unfoldable pub element_count : List (List Element) → ℕ
element_count [] = 0
element_count (g ∷ gs) = length g + element_count gs

-- ---- the bytes

-- a variable value has its length before it
unfoldable pub length_bytes : ℕ → List ℕ → List ℕ
length_bytes kind value = pick (eqb kind 9) (be 2 (length value)) []

unfoldable pub element_bytes : Widths → ℕ → Element → List ℕ
element_bytes w kind e = fields (be w.id e.id ∷ length_bytes kind e.value ∷ e.value ∷ [])

unfoldable pub group_bytes : Widths → ℕ → List Element → List ℕ
group_bytes w kind g = be w.count (length g) ++ joined (element_bytes w kind) g

unfoldable pub groups_bytes : Widths → List ℕ → List (List Element) → List ℕ
groups_bytes w [] gs = []
groups_bytes w (k ∷ ks) [] = []
groups_bytes w (k ∷ ks) (g ∷ gs) = group_bytes w k g ++ groups_bytes w ks gs

unfoldable pub fixed_bytes : Widths → Fixed → List ℕ
fixed_bytes w f =
    fields
    (be 8 f.timestamp
    ∷ be 1 f.priority
    ∷ be 4 f.longitude
    ∷ be 4 f.latitude
    ∷ be 2 f.altitude
    ∷ be 2 f.angle
    ∷ be 1 f.satellites
    ∷ be 2 f.speed
    ∷ be w.event f.event
    ∷ be w.generation f.generation
    ∷ [])

unfoldable pub record_bytes : Widths → AvlRecord → List ℕ
record_bytes w r = fields (fixed_bytes w r.fixed ∷ be w.count (element_count r.groups) ∷ groups_bytes w (kinds w) r.groups ∷ [])

-- ---- the rules

-- a fixed value has as many bytes as its kind says, a variable one as many as two bytes can count
abbrev pub ValueSize : ℕ → ℕ → Type 0
ValueSize kind size = pick (eqb kind 9) (size < 256 ^ 2) (size ≡ kind)

pub record ElementRules (w : Widths) (kind : ℕ) (e : Element) : Type 0 where
  pub id_fits : e.id < 256 ^ w.id
  pub size : ValueSize kind (length e.value)
  pub bytes : Bytes e.value

pub record GroupRules (w : Widths) (kind : ℕ) (g : List Element) : Type 0 where
  pub count_fits : length g < 256 ^ w.count
  pub each : All (ElementRules w kind) g

-- a group for each kind, in order
abbrev pub GroupsRules : Widths → List ℕ → List (List Element) → Type 0
GroupsRules w [] [] = Unit {0}
GroupsRules w [] (g ∷ gs) = ⊥
GroupsRules w (k ∷ ks) [] = ⊥
GroupsRules w (k ∷ ks) (g ∷ gs) = GroupRules w k g × GroupsRules w ks gs

pub record FixedRules (w : Widths) (f : Fixed) : Type 0 where
  pub timestamp_fits : f.timestamp < 256 ^ 8
  pub priority_range : f.priority ≤ 2
  pub longitude_fits : f.longitude < 256 ^ 4
  pub latitude_fits : f.latitude < 256 ^ 4
  pub altitude_fits : f.altitude < 256 ^ 2
  pub angle_fits : f.angle < 256 ^ 2
  pub satellites_fit : f.satellites < 256 ^ 1
  pub speed_fits : f.speed < 256 ^ 2
  pub event_fits : f.event < 256 ^ w.event
  pub generation_fits : f.generation < 256 ^ w.generation
  pub generation_range : f.generation ≤ 7

-- `longest` is the most bytes that a record may have
pub record RecordRules (longest : ℕ) (w : Widths) (r : AvlRecord) : Type 0 where
  pub fixed_keep : FixedRules w r.fixed
  pub total_fits : element_count r.groups < 256 ^ w.count
  pub groups_keep : GroupsRules w (kinds w) r.groups
  pub size : length (record_bytes w r) ≤ longest
