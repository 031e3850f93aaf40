-- The search among a record's elements, and what its functions answer.
use Rattle.std.specs.Prelude.{Err, None, Ok, Option, Some, ℕ, ◌+◌, ◌≡◌, List, length}
use Rattle.wire.specs.Reading.{got}
use Rattle.wire.specs.Answers.{Answer}
use Rattle.avl.specs.declared.Widths.{Widths}
use Rattle.avl.specs.Records.{Element, AvlRecord, element_count}
use Rattle.avl.specs.RecordReader.{element, group, groups, plain_record}
use Rattle.element.specs.declared.Value.{Value}
use Rattle.element.specs.declared.Search.{Search}
use Rattle.element.specs.Elements.{Located, lead_size, locate_groups, elements, first_with, passed_for}

-- the bytes `s` begin with a record that can be read
pub record Readable (w : Widths) (s : List ℕ) : Type 0 where
  pub content : AvlRecord
  pub next : ℕ
  pub reads : plain_record w s 0 ≡ got content next

-- at `at` an element, or a group, of this kind can be read
pub record ReadableElement (w : Widths) (kind : ℕ) (s : List ℕ) (at : ℕ) : Type 0 where
  pub content : Element
  pub next : ℕ
  pub reads : element w kind s at ≡ got content next

pub record ReadableGroup (w : Widths) (kind : ℕ) (s : List ℕ) (at : ℕ) : Type 0 where
  pub members : List Element
  pub next : ℕ
  pub reads : group w kind s at ≡ got members next

-- the record that the bytes `s` begin with has so many elements
abbrev pub HasElements : Widths → List ℕ → ℕ → Type 0
HasElements w s n = (x : AvlRecord) (next : ℕ) → plain_record w s 0 ≡ got x next → n ≡ element_count x.groups

-- ---- the search among a record's elements

-- before the groups of these kinds, which begin at `at`: what their elements give is the answer
pub record Onward {A : Type 0} (w : Widths) (ks : List ℕ) (s : List ℕ) (at : ℕ) (look : List Located → A) (answer : A) : Type 0 where
  pub rest : List (List Element)
  pub end : ℕ
  pub reads : groups w ks s at ≡ got rest end
  pub same : look (locate_groups w ks at rest) ≡ answer

unfoldable pub located_value : Located → Value
located_value e = record { id = e.id; kind = e.kind; offset = e.place; size = length e.value }

-- the value of an element that stands at `at`
unfoldable pub value_at : Widths → ℕ → ℕ → Element → Value
value_at w kind at e = record { id = e.id; kind = kind; offset = at + lead_size w kind; size = length e.value }

-- what a search by ID gives: the first element with the ID, and the number of elements passed
pub record Sought : Type 0 where
  pub found : Answer Located
  pub passed : ℕ

-- in these elements, behind so many others
unfoldable pub sought : ℕ → ℕ → List Located → Sought
sought id before l = record { found = first_with id l; passed = before + passed_for id l }

unfoldable pub hit_or : Answer Located → ℕ → ℕ → Search
hit_or (Ok e) next n = Search.Hit (located_value e) n
hit_or (Err r) next n = Search.Miss next n

-- in a group that ends at `next`, behind so many elements
unfoldable pub searched : ℕ → ℕ → ℕ → List Located → Search
searched id before next l = hit_or (first_with id l) next (before + passed_for id l)

unfoldable pub element_as : Answer Located → Option Value
element_as (Ok e) = Some (located_value e)
element_as (Err r) = None

-- the answer is the element that is looked for in the record that the bytes `s` begin with
abbrev pub Finds : Widths → List ℕ → (List Located → Answer Located) → Option Value → Type 0
Finds w s look r = (x : AvlRecord) (n : ℕ) → plain_record w s 0 ≡ got x n → r ≡ element_as (look (elements w x))

-- so many elements of this record are passed in looking for the ID
abbrev pub Passes : Widths → List ℕ → ℕ → ℕ → Type 0
Passes w s id passed = (x : AvlRecord) (n : ℕ) → plain_record w s 0 ≡ got x n → passed ≡ passed_for id (elements w x)
