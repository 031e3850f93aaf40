-- Looking values up: by record and element number, by record and ID, and the last known value of an ID.
use Rattle.std.specs.Prelude.{Err, Ok, ℕ, ◌+◌, ◌-◌, Bool, true, false, List, [], length}
use Rattle.wire.specs.declared.Limits.{Limits}
use Rattle.wire.specs.Numbers.{pick}
use Rattle.wire.specs.Places.{behind}
use Rattle.wire.specs.Answers.{Answer, on_accepted}
use Rattle.avl.specs.Codecs.{widths_of}
use Rattle.avl.specs.DataField.{AvlData}
use Rattle.packet.specs.DataPackets.{read_packet}
use Rattle.datagram.specs.Datagrams.{read_datagram}
use Rattle.element.specs.declared.RecordFields.{RecordFields}
use Rattle.element.specs.Elements.{Located, elements, nth, first_with, passed_for}
use Rattle.lookup.specs.Places.{Placed, place_records}
use Rattle.element.specs.Results.{record_result}

-- ---- what is looked in: accepted data, and the offset of its first record in the input

pub record Source : Type 0 where
  pub content : AvlData
  pub base : ℕ

unfoldable pub tcp_source : Limits → List ℕ → Answer Source
tcp_source limits p = on_accepted (read_packet limits p) (λ a. Ok (record { content = a; base = 10 }))

unfoldable pub udp_source : Limits → List ℕ → Answer Source
udp_source limits p = on_accepted (read_datagram limits p) (λ g. Ok (record { content = g.payload; base = 25 }))

unfoldable pub placed_record : Source → ℕ → Answer Placed
placed_record x n = nth n (place_records (widths_of x.content.codec) x.base x.content.records)

-- what `f` makes of the codec and of the record with this number
abbrev pub of_record : {B : Type 0} → (ℕ → Placed → Answer B) → Answer Source → ℕ → Answer B
of_record f source n = on_accepted source (λ x. on_accepted (placed_record x n) (f x.content.codec))

-- its fields
abbrev pub fields_of : ℕ → Placed → Answer RecordFields
fields_of codec r = Ok (record_result r.content)

unfoldable pub record_by_number : Answer Source → ℕ → Answer RecordFields
record_by_number source n = of_record fields_of source n

-- ---- a value: its ID, kind, offset from the input's start, and its bytes

pub record Found : Type 0 where
  pub id : ℕ
  pub kind : ℕ
  pub offset : ℕ
  pub value : List ℕ

unfoldable pub found_in : Placed → Located → Found
found_in r e = record { id = e.id; kind = e.kind; offset = r.start + e.place; value = e.value }

-- a value of a record, chosen from the record's elements
abbrev pub chosen : (List Located → Answer Located) → ℕ → Placed → Answer Found
chosen choose codec r = on_accepted (choose (elements (widths_of codec) r.content)) (λ e. Ok (found_in r e))

unfoldable pub value_in : (List Located → Answer Located) → Source → ℕ → Answer Found
value_in choose x n = on_accepted (placed_record x n) (chosen choose x.content.codec)

unfoldable pub value_by_number : Answer Source → ℕ → ℕ → Answer Found
value_by_number source n k = on_accepted source (λ x. value_in (nth k) x n)

unfoldable pub value_by_id : Answer Source → ℕ → ℕ → Answer Found
value_by_id source n id = on_accepted source (λ x. value_in (first_with id) x n)

-- the view: the value's bytes, empty on every refusal
unfoldable pub view : Answer Found → List ℕ
view (Ok f) = f.value
view (Err r) = []

-- where the view begins, counted from the input's start: with its value; an empty one with the input
unfoldable pub view_offset : Answer Found → ℕ
view_offset (Ok f) = f.offset
view_offset (Err r) = 0

-- ---- how many elements a look-up by ID passes

-- in a record
abbrev pub passed_in : ℕ → ℕ → Placed → Answer ℕ
passed_in id codec r = Ok (passed_for id (elements (widths_of codec) r.content))

-- nothing is passed where there is no record to look in
unfoldable pub or_none : Answer ℕ → ℕ
or_none (Ok n) = n
or_none (Err r) = 0

unfoldable pub passed_by_id : Answer Source → ℕ → ℕ → ℕ
passed_by_id source n id = or_none (of_record (passed_in id) source n)

-- ---- the last known value

pub record LastKnown : Type 0 where
  pub older : Bool
  pub found : Found

unfoldable pub value_in_last : ℕ → Source → Answer Found
value_in_last id x = value_in (first_with id) x (length x.content.records - 1)

unfoldable pub in_older : ℕ → Answer Source → Answer LastKnown
in_older id source = on_accepted source (λ x. on_accepted (value_in_last id x) (λ f. Ok (record { older = true; found = f })))

unfoldable pub or_else : {A : Type 0} → Answer A → Answer A → Answer A
or_else (Ok a) b = Ok a
or_else (Err r) b = b

-- in the newer's last record, else in the older's, which is judged only then
unfoldable pub last_known : ℕ → Answer Source → Answer Source → Answer LastKnown
last_known id newer older =
    on_accepted newer (λ x. or_else (on_accepted (value_in_last id x) (λ f. Ok (record { older = false; found = f }))) (in_older id older))

-- how many elements are passed: those of the newer's last record; and, where that is without the ID, of the older's
unfoldable pub passed_in_last : ℕ → Answer Source → ℕ
passed_in_last id source = or_none (on_accepted source (λ x. on_accepted (placed_record x (length x.content.records - 1)) (passed_in id x.content.codec)))

unfoldable pub if_none : Answer Found → ℕ → ℕ
if_none (Ok f) n = 0
if_none (Err r) n = n

unfoldable pub passed_by_last : ℕ → Answer Source → Answer Source → ℕ
passed_by_last id newer older =
    or_none (on_accepted newer (λ x. Ok (passed_in_last id (Ok x) + if_none (value_in_last id x) (passed_in_last id older))))

-- the place of its view: in the packet that has the value; an empty one begins with the newer
unfoldable pub known_place : Answer LastKnown → ℕ × ℕ → ℕ × ℕ → ℕ × ℕ
known_place (Ok k) newer older = behind (pick k.older older newer) k.found.offset
known_place (Err r) newer older = behind newer 0
