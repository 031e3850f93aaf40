-- What the code answers, of what the definitions give.
use Rattle.std.specs.Prelude.{Err, None, Ok, Option, Some, ℕ, ◌+◌, ◌-◌, ◌^◌, ◌≤◌, ◌<◌, ◌≡◌, List, [], length}
use Rattle.lookup.specs.declared.Known.{Known}
use Rattle.lookup.specs.declared.Part.{Part}
use Rattle.wire.specs.declared.Refusal.{Refusal}
use Rattle.wire.specs.Reading.{got}
use Rattle.wire.specs.Answers.{Answer, on_accepted, refusal}
use Rattle.avl.specs.Codecs.{widths_of}
use Rattle.avl.specs.Records.{AvlRecord, element_count, record_bytes}
use Rattle.avl.specs.RecordReader.{plain_record}
use Rattle.element.specs.declared.Value.{Value}
use Rattle.element.specs.declared.RecordFields.{RecordFields}
use Rattle.element.specs.Elements.{Located, elements}
use Rattle.element.specs.Places.{part}
use Rattle.element.specs.Search.{Readable, HasElements}
use Rattle.lookup.specs.Lookups.{Source, placed_record, fields_of, Found, chosen, passed_in, or_none, view, LastKnown}
use Rattle.lookup.specs.Places.{Placed}

-- ---- a record as a part of the input

unfoldable pub part_of : Answer Source → ℕ → Answer Part
part_of source n =
    on_accepted source
    (λ x. on_accepted (placed_record x n)
    (λ r. Ok
    (record {
      codec = x.content.codec;
      start = r.start;
      end = r.start + length (record_bytes (widths_of x.content.codec) r.content);
      elements = element_count r.content.groups;
    })))

-- the last record
unfoldable pub last_part : Answer Source → Answer Part
last_part source = on_accepted source (λ x. part_of (Ok x) (length x.content.records - 1))

-- from `start` to `end` the input has a record of this codec, which can be read and has so many elements
pub record RecordAt (p : List ℕ) (codec start end elements : ℕ) : Type 0 where
  pub ordered : start ≤ end
  pub inside : end ≤ length p
  pub readable : Readable (widths_of codec) (part p start (end - start))
  pub counted : HasElements (widths_of codec) (part p start (end - start)) elements

-- a record of the input, as a part
abbrev pub record_part : ℕ → ℕ → ℕ → ℕ → Answer Part
record_part codec start elements end = Ok (record { codec = codec; start = start; elements = elements; end = end })

-- the part is a record of the input
pub record PartIn (p : List ℕ) (q : Answer Part) : Type 0 where
  pub stands : (codec start end elements : ℕ) → q ≡ Ok (record { codec = codec; start = start; elements = elements; end = end }) → RecordAt p codec start end elements

-- what is so of the answer that `f` makes of the record that the part is, or of the part's refusal
pub record OfPart {B : Type 0} (p : List ℕ) (q : Answer Part) (f : ℕ → Placed → Answer B) (Holds : Answer B → Type 0) : Type 0 where
  pub made : (codec start end elements : ℕ) → q ≡ Ok (record { codec = codec; start = start; elements = elements; end = end }) → (x : AvlRecord) (n : ℕ)
      → plain_record (widths_of codec) (part p start (end - start)) 0 ≡ got x n → Holds (f codec (record { start = start; content = x }))
  pub passed : (r : Refusal) → q ≡ Err r → Holds (Err r)

-- the answer is the fields of the record that the part is
abbrev pub RecordIn : List ℕ → Answer Part → Answer RecordFields → Type 0
RecordIn p q answer = OfPart p q fields_of (λ r. answer ≡ r)

-- ---- a value

-- the offset counted from the input's start fits a word
abbrev pub Reaches : ℕ → Option Value → Type 0
Reaches start (Some v) = start + v.offset < 2 ^ 64
Reaches start None = Unit {0}

-- a value of the record at `start`, its offset counted from the input's start
unfoldable pub shifted : ℕ → Option Value → Answer Value
shifted start (Some v) = Ok (record { id = v.id; kind = v.kind; offset = start + v.offset; size = v.size })
shifted start None = Err (refusal 16)

-- the bytes of a value, which lie in the input
abbrev pub Within : List ℕ → Answer Value → Type 0
Within p (Ok v) = v.offset + v.size ≤ length p
Within p (Err r) = Unit {0}

unfoldable pub view_of : List ℕ → Answer Value → List ℕ
view_of p (Ok v) = part p v.offset v.size
view_of p (Err r) = []

-- where they begin; the input's start for a refusal
unfoldable pub start_of : Answer Value → ℕ
start_of (Ok v) = v.offset
start_of (Err r) = 0

unfoldable pub value_result : Found → Value
value_result f = record { id = f.id; kind = f.kind; offset = f.offset; size = length f.value }

unfoldable pub answer_value : Answer Found → Answer Value
answer_value found = on_accepted found (λ f. Ok (value_result f))

-- the answer is the value that is looked for in the record that the part is
abbrev pub ValueIn : List ℕ → Answer Part → (List Located → Answer Located) → Answer Value → Type 0
ValueIn p q look answer = OfPart p q (chosen look) (λ found. answer ≡ answer_value found)

-- so many elements of that record are passed in looking for the ID
abbrev pub PassedIn : List ℕ → Answer Part → ℕ → ℕ → Type 0
PassedIn p q id passed = OfPart p q (passed_in id) (λ n. passed ≡ or_none n)

-- the bytes of the answer lie in the input, and are the value that is found
abbrev pub Shows : List ℕ → Answer Value → Answer Found → Type 0
Shows p answer found = Within p answer × (view_of p answer ≡ view found)

-- ---- the last known value

unfoldable pub answer_known : Answer LastKnown → Answer Known
answer_known known = on_accepted known (λ k. Ok (record { older = k.older; value = value_result k.found }))

unfoldable pub known_view : Answer LastKnown → List ℕ
known_view (Ok k) = k.found.value
known_view (Err r) = []
