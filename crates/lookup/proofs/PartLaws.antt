-- A record as a part of the input, and what is looked up in it.
use Rattle.std.specs.Prelude.{Err, None, Ok, Option, Some}
use Prim.Native.Nat.{ℕ, zero, suc, ◌+◌, ◌-◌, ◌^◌, ◌≤◌, ◌<◌}
use native.Mathlib.Nat.{add-zero, add_assoc, not-suc-le-zero, le_of_suc-le-suc}
use native.Mathlib.Omega.{arith}
use mathlib.Core.Path.{◌≡◌, refl, sym, ap, ap₂, ◌∙◌, subst}
use mathlib.Core.Bool.{Bool, true, false}
use mathlib.Core.List.{List, [], ◌∷◌}
use lib.ListN.{length, drop, length-drop}
use lib.Seq.{length-take-le}
use lib.Dec.{eqb}
use Rattle.wire.specs.declared.Limits.{Limits}
use Rattle.wire.specs.declared.Refusal.{Refusal}
use Rattle.wire.specs.Numbers.{Bytes, pick}
use Rattle.wire.specs.Sequences.{All}
use Rattle.wire.specs.Reading.{got}
use Rattle.wire.specs.Answers.{Answer, on_accepted, refusal}
use Rattle.wire.proofs.Widths.{bytes_take, bytes_drop}
use Rattle.wire.proofs.Accepting.{on_accepted-accepted, on_accepted-passed, on_accepted-refused}
use Rattle.avl.specs.declared.Widths.{Widths}
use Rattle.avl.specs.Codecs.{widths_of}
use Rattle.avl.specs.Records.{AvlRecord, element_count, record_bytes}
use Rattle.avl.specs.DataField.{AvlData, DataRules}
use Rattle.avl.proofs.Inversion.{plain-record, plain_size}
use Rattle.avl.specs.RecordReader.{plain_record}
use Rattle.walk.specs.declared.Span.{Span}
use Rattle.walk.specs.Walks.{span_of, data_walk}
use Rattle.walk.proofs.TakenLaws.{taken, taken-fits, not_taken}
use Rattle.packet.specs.DataPackets.{read_packet}
use Rattle.datagram.specs.Datagrams.{Datagram, read_datagram, payload_of}
use Rattle.element.specs.declared.Value.{Value}
use Rattle.element.specs.Elements.{Located, elements, nth, first_with}
use Rattle.element.specs.Places.{part, Inside}
use Rattle.element.specs.Search.{Readable, HasElements, Finds, Passes, located_value, element_as}
use Rattle.element.proofs.ReadLaws.{got_same}
use Rattle.element.proofs.ElementLaws.{elements-inside}
use Rattle.lookup.specs.Places.{Placed, place_records}
use Rattle.lookup.specs.Lookups.{Source, tcp_source, udp_source, placed_record, of_record, Found, found_in, value_in, or_none, view, view_offset}
use Rattle.lookup.specs.Answers.{part_of, RecordAt, PartIn, OfPart, ValueIn, PassedIn, Reaches, shifted, Within, view_of, start_of, value_result, answer_value}
use Rattle.lookup.specs.declared.Part.{Part}
use Rattle.lookup.specs.Carriers.{Stored, Carried, walk_of}
use Rattle.lookup.proofs.PlaceLaws.{tcp-stored, udp-stored, kept, own-part, value-in-place}

-- ---- the span of a record is its place

span-placed : (w : Widths) (base at n : ℕ) (rs : List AvlRecord) → n < length rs
    → (r : Placed)
    × (nth n (place_records w (base + at) rs) ≡ Ok r)
    × (r.start ≡ base + (span_of w n at rs).start)
    × (r.start + length (record_bytes w r.content) ≡ base + (span_of w n at rs).end)
    × (element_count r.content.groups ≡ (span_of w n at rs).elements)
unfolding place_records nth span_of
span-placed w base at n [] h = absurd (not-suc-le-zero h)
span-placed w base at zero (r ∷ rs) h = (record { start = base + at; content = r }, refl, refl, add_assoc base at (length (record_bytes w r)), refl)
span-placed w base at (suc n) (r ∷ rs) h = rw (add_assoc base at (length (record_bytes w r))) (span-placed w base (at + length (record_bytes w r)) n rs (le_of_suc-le-suc h))

none-placed : (w : Widths) (at n : ℕ) (rs : List AvlRecord) → length rs ≤ n → nth n (place_records w at rs) ≡ Err (refusal 16)
unfolding place_records nth
none-placed w at n [] h = refl
none-placed w at zero (r ∷ rs) h = absurd (not-suc-le-zero h)
none-placed w at (suc n) (r ∷ rs) h = none-placed w (at + length (record_bytes w r)) n rs (le_of_suc-le-suc h)

-- where the record with this number lies
abbrev span_in : Source → ℕ → Span
span_in x n = span_of (widths_of x.content.codec) n 0 x.content.records

there-placed : (x : Source) (n : ℕ) → n < length x.content.records
    → (r : Placed)
    × (placed_record x n ≡ Ok r)
    × (r.start ≡ x.base + (span_in x n).start)
    × (r.start + length (record_bytes (widths_of x.content.codec) r.content) ≡ x.base + (span_in x n).end)
    × (element_count r.content.groups ≡ (span_in x n).elements)
unfolding placed_record
there-placed x n h =
    let w = widths_of x.content.codec in
    let s = span-placed w x.base 0 n x.content.records h in
    (s.0, ap (λ (at : ℕ). nth n (place_records w at x.content.records)) (sym (add-zero x.base)) ∙ s.1, s.2, s.3, s.4)

pub part-there : (x : Source) (n : ℕ) → n < length x.content.records
    → part_of (Ok x) n
    ≡ Ok (record { codec = x.content.codec; start = x.base + (span_in x n).start; end = x.base + (span_in x n).end; elements = (span_in x n).elements })
unfolding part_of on_accepted
part-there x n h =
    let s = there-placed x n h in
    on_accepted-passed (placed_record x n) _ s.1 ∙ (λ i. Ok (record { codec = x.content.codec; start = s.2 i; end = s.3 i; elements = s.4 i }))

part-beyond : (x : Source) (n : ℕ) → length x.content.records ≤ n → part_of (Ok x) n ≡ Err (refusal 16)
unfolding part_of placed_record on_accepted
part-beyond x n h = on_accepted-refused _ _ (none-placed (widths_of x.content.codec) x.base n x.content.records h)

-- ---- two steps, of which the second may refuse

-- what is refused before the last step is refused whatever the last step gives
refused-before : {A B C D : Type 0} (r : Answer A) (next : A → Answer B) (f : A → B → C) (g : A → B → Answer D) {x : Refusal}
    → on_accepted r (λ a. on_accepted (next a) (λ b. Ok (f a b))) ≡ Err x → on_accepted r (λ a. on_accepted (next a) (g a)) ≡ Err x
unfolding on_accepted
refused-before (Err y) next f g e = ap Err (cc)
refused-before {A} {B} {C} {D} (Ok a) next f g {x} e = go (next a) e
  where
    go : (r : Answer B) → on_accepted r (λ b. Ok (f a b)) ≡ Err x → on_accepted r (g a) ≡ Err x
    go (Ok b) e = absurd (let z : ◌≡◌ {A = ℕ} 0 1 = cc in omega arith)
    go (Err y) e = ap Err (cc)

-- ---- a record of a source that stands in `p`

-- the part of the record whose number the source gives
abbrev pub part_at : (Source → ℕ) → Answer Source → Answer Part
part_at number source = on_accepted source (λ x. part_of (Ok x) (number x))

-- a placed record as a part of the input
abbrev size_of : Source → Placed → ℕ
size_of x r = length (record_bytes (widths_of x.content.codec) r.content)

abbrev as_part : Source → Placed → Answer Part
as_part x r = Ok (record { codec = x.content.codec; start = r.start; elements = (element_count r.content.groups); end = (r.start + size_of x r) })

record Lies (longest : ℕ) (p : List ℕ) (source : Answer Source) (number : Source → ℕ) (part : Answer Part) : Type 0 where
  origin : Source
  stored : Stored longest p origin
  accepts : source ≡ Ok origin
  placed : Placed
  found : placed_record origin (number origin) ≡ Ok placed
  is : as_part origin placed ≡ part

module _ {longest : ℕ} {p : List ℕ} {source : Answer Source} {number : Source → ℕ} {q : Answer Part} (h : Lies longest p source number q) where
  reads : plain_record (widths_of h.origin.content.codec) (part p h.placed.start (h.placed.start + size_of h.origin h.placed - h.placed.start)) 0
      ≡ got h.placed.content (size_of h.origin h.placed)
  reads =
      let size : size_of h.origin h.placed ≡ h.placed.start + size_of h.origin h.placed - h.placed.start = omega arith in
      ap (λ (n : ℕ). plain_record (widths_of h.origin.content.codec) (part p h.placed.start n) 0) (sym size)
      ∙ plain-record longest _ _ 0 (own-part longest p h.origin (number h.origin) h.placed h.stored h.found)

-- what a part that is a record gives, and that of a refused part
abbrev Standing : List ℕ → Answer Part → Type 0
Standing p (Ok q) = RecordAt p q.codec q.start q.end q.elements
Standing p (Err r) = Unit {0}

lies_in : {longest : ℕ} {p : List ℕ} {source : Answer Source} {number : Source → ℕ} {codec start end count : ℕ} → Lies longest p source number (Ok (record { codec = codec; start = start; elements = count; end = end }))
    → RecordAt p codec start end count
lies_in {longest} {p} {source} {number} h =
    subst (Standing p) h.is
    (record {
      ordered = omega arith;
      inside = (kept longest p h.origin (number h.origin) h.placed h.stored h.found).stands.inside;
      readable = record { content = _; next = _; reads = reads h };
      counted = λ x n k. ap (λ (y : AvlRecord). element_count y.groups) (got_same (reads h) k).0;
    })

-- ---- what holds of a part

abbrev Made : {B : Type 0} → List ℕ → (ℕ → Placed → Answer B) → (Answer B → Type 0) → Answer Part → Type 0
Made p f Holds (Ok q) =
    (x : AvlRecord) (n : ℕ) → plain_record (widths_of q.codec) (part p q.start (q.end - q.start)) 0 ≡ got x n → Holds (f q.codec (record { start = q.start; content = x }))
Made p f Holds (Err r) = Unit {0}

module _ {B : Type 0} {p : List ℕ} {q : Answer Part} {f : ℕ → Placed → Answer B} {Holds : Answer B → Type 0} where
  pub of-refused : {r : Refusal} → q ≡ Err r → Holds (Err r) → OfPart p q f Holds
  of-refused {r} e h =
      record {
        made = λ codec start end count k x n i. absurd (let z : ◌≡◌ {A = ℕ} 0 1 = cc in omega arith);
        passed = λ x k. let same : r ≡ x = cc in subst (λ (y : Refusal). Holds (Err y)) same h;
      }

  pub of-record : {codec start end count : ℕ} → q ≡ Ok (record { codec = codec; start = start; elements = count; end = end })
      → ((x : AvlRecord) (n : ℕ) → plain_record (widths_of codec) (part p start (end - start)) 0 ≡ got x n → Holds (f codec (record { start = start; content = x })))
      → OfPart p q f Holds
  of-record e h =
      record {
        made = λ codec start end count k. subst (Made p f Holds) (sym e ∙ k) h;
        passed = λ x k. absurd (let z : ◌≡◌ {A = ℕ} 0 1 = cc in omega arith);
      }

-- a look-up refuses only with 16
abbrev Sixteen : (List Located → Answer Located) → Type 0
Sixteen look = (l : List Located) (x : Refusal) → look l ≡ Err x → x ≡ refusal 16

-- a found element, its offset counted from the input's start
shifted-found : (r : Placed) (c : Answer Located) → ((x : Refusal) → c ≡ Err x → x ≡ refusal 16)
    → (shifted r.start (element_as c)) ≡ answer_value (on_accepted c (λ e. Ok (found_in r e)))
unfolding shifted element_as located_value answer_value on_accepted found_in value_result
shifted-found r (Ok e) h = refl
shifted-found r (Err x) h = ap Err (sym (h x refl))

refused-view : (found : Answer Found) {x : Refusal} → answer_value found ≡ Err x → view found ≡ []
unfolding answer_value on_accepted view
refused-view (Ok f) e = absurd (let z : ◌≡◌ {A = ℕ} 0 1 = cc in omega arith)
refused-view (Err x) e = refl

-- a view begins where its value stands
pub view-start : (answer : Answer Value) (found : Answer Found) → answer ≡ answer_value found → start_of answer ≡ view_offset found
unfolding answer_value on_accepted start_of view_offset value_result
view-start (Ok v) (Ok f) e =
    let same : v ≡ value_result f = cc in
    ap (λ (x : Value). x.offset) same
view-start (Ok v) (Err x) e = absurd (let z : ◌≡◌ {A = ℕ} 0 1 = cc in omega arith)
view-start (Err r) (Ok f) e = absurd (let z : ◌≡◌ {A = ℕ} 0 1 = cc in omega arith)
view-start (Err r) (Err x) e = refl

module _ {longest : ℕ} {p : List ℕ} {source : Answer Source} (stored : (x : Source) → source ≡ Ok x → Stored longest p x) (number : Source → ℕ) where
  lies : {codec start end count : ℕ} → Ok (record { codec = codec; start = start; end = end; elements = count }) ≡ part_at number source
      → Lies longest p source number (Ok (record { codec = codec; start = start; elements = count; end = end }))
  unfolding part_of on_accepted
  lies {codec} {start} {end} {count} e =
      let i = on_accepted-accepted source _ (sym e) in
      let j = on_accepted-accepted (placed_record i.0 (number i.0)) _ i.2 in
      let same : ◌≡◌ {A = Part} (record { codec = i.0.content.codec; start = j.0.start; end = j.0.start + size_of i.0 j.0; elements = element_count j.0.content.groups })
      (record { codec = codec; start = start; end = end; elements = count }) = cc j.2 in
      record {
        origin = i.0;
        stored = stored i.0 i.1;
        accepts = i.1;
        placed = j.0;
        found = j.1;
        is = ap (λ (r : Part). Ok (record { codec = r.codec; start = r.start; elements = r.elements; end = r.end })) same;
      }

  pub part_in : (q : Answer Part) → q ≡ part_at number source → PartIn p q
  part_in q e = record { stands = λ codec start end count k. lies_in (lies (sym (k) ∙ e)) }

  -- the answer of a refused part
  part-refused : {B : Type 0} (g : Source → Placed → Answer B) {x : Refusal} → Err x ≡ part_at number source
      → Err x ≡ on_accepted source (λ x. on_accepted (placed_record x (number x)) (g x))
  unfolding part_of on_accepted
  part-refused g e = sym (refused-before source (λ x. placed_record x (number x)) _ g (sym e))

  -- what holds of a part holds of the record with its number
  pub part-answer : {B : Type 0} {f : ℕ → Placed → Answer B} {Holds : Answer B → Type 0} (q : Answer Part) → q ≡ part_at number source → OfPart p q f Holds
      → Holds (on_accepted source (λ x. on_accepted (placed_record x (number x)) (f x.content.codec)))
  part-answer {B} {f} {Holds} (Ok q) e k =
      let h = lies e in
      subst Holds (sym (on_accepted-passed source _ h.accepts ∙ on_accepted-passed (placed_record h.origin (number h.origin)) _ h.found))
      (k.made _ _ _ _ (sym h.is) _ _ (reads h))
  part-answer {B} {f} {Holds} (Err r) e k = subst Holds (part-refused (λ x. f x.content.codec) e) (k.passed r refl)

  module _ (choose : List Located → Answer Located) where
    -- the looked-up value
    abbrev pub wanted_in : Answer Found
    wanted_in = on_accepted source (λ x. value_in choose x (number x))

    -- a value lies in the input, and its bytes there are the value
    pub value-view : ((l : List Located) (e : Located) → choose l ≡ Ok e → (P : Located → Type 0) → All P l → P e)
        → (answer : Answer Value) → answer ≡ answer_value wanted_in → Within p answer × (view_of p answer ≡ view wanted_in)
    unfolding view_of value_result answer_value view
    value-view member (Ok v) e =
        let i = on_accepted-accepted wanted_in _ (sym e) in
        let f = i.0 in
        let j = on_accepted-accepted source _ i.1 in
        let x = j.0 in
        let k = value-in-place longest p x (number x) choose f (stored x j.1) member j.2 in
        let inside = (kept longest p x (number x) k.0 (stored x j.1) k.1).stands.inside in
        let same : value_result f ≡ v = cc i.2 in (
          subst (λ (v : Value). v.offset + v.size ≤ length p) same (omega (arith, inside, k.3)),
          ap (λ (v : Value). part p v.offset v.size) (sym same) ∙ k.4 ∙ sym (ap view i.1),
        )
    value-view member (Err r) e = (tt, sym (refused-view wanted_in (sym e)))

-- ---- a record by its number

module _ {longest : ℕ} {p : List ℕ} {source : Answer Source} (stored : (x : Source) → source ≡ Ok x → Stored longest p x) (n : ℕ) {q : Answer Part} (e : q ≡ part_of source n) where
  pub record-in : PartIn p q
  unfolding part_of on_accepted
  record-in = part_in stored (λ x. n) q e

  pub record-answer : {B : Type 0} {f : ℕ → Placed → Answer B} {Holds : Answer B → Type 0} → OfPart p q f Holds → Holds (of_record f source n)
  unfolding part_of on_accepted
  record-answer k = part-answer stored (λ x. n) q e k

-- ---- the look-ups by number and by ID

pub nth-sixteen : (k : ℕ) → Sixteen (nth k)
unfolding nth
nth-sixteen k [] x e = cc
nth-sixteen zero (a ∷ l) x e = absurd (let z : ◌≡◌ {A = ℕ} 0 1 = cc in omega arith)
nth-sixteen (suc k) (a ∷ l) x e = nth-sixteen k l x e

pub first-sixteen : (id : ℕ) → Sixteen (first_with id)
unfolding first_with
first-sixteen id [] x e = cc
first-sixteen id (a ∷ l) x e = go (eqb a.id id) e (first-sixteen id l x)
  where
    go : (t : Bool) → pick t (Ok a) (first_with id l) ≡ Err x → (first_with id l ≡ Err x → x ≡ refusal 16) → x ≡ refusal 16
    go true e h = absurd (let z : ◌≡◌ {A = ℕ} 0 1 = cc in omega arith)
    go false e h = h e

-- ---- what may be asked of a part

module _ {p : List ℕ} {codec start end count : ℕ} (h : RecordAt p codec start end count) {w : Widths} (same : w ≡ widths_of codec) where
  pub part-fields : Readable w (part p start (end - start)) × HasElements w (part p start (end - start)) count
  part-fields =
      subst (λ (w : Widths). Readable w (part p start (end - start)) × HasElements w (part p start (end - start)) count) (sym same)
      (h.readable, h.counted)

  pub part-readable : Readable w (part p start (end - start))
  part-readable = part-fields.0

-- ---- what a search in a part gives

at-inside : (w : Widths) (s : List ℕ) (x : AvlRecord) (n : ℕ) (c : Answer Located) (v : Value) → Bytes s → plain_record w s 0 ≡ got x n
    → ((e : Located) → c ≡ Ok e → (P : Located → Type 0) → All P (elements w x) → P e) → Some v ≡ element_as c → v.offset + v.size ≤ length s
unfolding element_as located_value
at-inside w s x n (Ok e') v b e member h =
    let m = member e' refl (λ (a : Located). Inside a (record_bytes w x)) (elements-inside w x) in
    let f = plain_size w s 0 b (omega arith) e in
    let same : v ≡ located_value e' = cc in
    subst (λ (v : Value). v.offset + v.size ≤ length s) (sym same) (omega (arith, m.within, f.0, f.1))
at-inside w s x n (Err y) v b e member h = absurd (let z : ◌≡◌ {A = ℕ} 0 1 = cc in omega arith)

module _ {p : List ℕ} {codec start end count : ℕ} (h : RecordAt p codec start end count) (look : List Located → Answer Located) {w : Widths} {answer : Option Value} (same : w ≡ widths_of codec)
    (found : Finds w (part p start (end - start)) look answer) where
  searched : Finds (widths_of codec) (part p start (end - start)) look answer
  searched = rw same at found

  pub value_found : Sixteen look → {q : Answer Part} {r : Answer Value} → q ≡ Ok (record { codec = codec; start = start; elements = count; end = end }) → r ≡ shifted start answer → ValueIn p q look r
  value_found sixteen e is =
      of-record e (λ x n k. (is ∙ ap (shifted start) (searched x n k)) ∙ shifted-found _ (look (elements (widths_of codec) x)) (sixteen (elements (widths_of codec) x)))

  pub value-reaches : ((l : List Located) (e : Located) → look l ≡ Ok e → (P : Located → Type 0) → All P l → P e) → length p < 2 ^ 64
      → Bytes p → Reaches start answer
  unfolding part
  value-reaches member few b = go answer refl
    where
      go : (a : Option Value) → answer ≡ a → Reaches start a
      go None e = tt
      go (Some v) e =
          let r = h.readable in
          let l = elements (widths_of codec) r.content in
          let inside = at-inside (widths_of codec) _ r.content r.next (look l) v (bytes_take (end - start) (drop start p) (bytes_drop start p b)) r.reads (member l) (sym e ∙ searched _ _ r.reads) in
          let size = length-take-le (end - start) (drop start p) (simp length-drop (omega arith)) in
          omega (arith, h.ordered, h.inside)

-- the number of elements passed in such a search
pub passed-found : {p : List ℕ} {codec start end count : ℕ} (id : ℕ) {w : Widths} {passed : ℕ} → w ≡ widths_of codec → Passes w (part p start (end - start)) id passed
    → {q : Answer Part} → q ≡ Ok (record { codec = codec; start = start; elements = count; end = end }) → PassedIn p q id passed
unfolding or_none
passed-found {p} {codec} {start} {end} id same counts e = of-record e (λ x n k. (rw same at counts) x n k)

-- ---- what the walks tell

-- an accepted input, whose first record stands at `base`, as a walk tells of it
pub record Walked (source : Answer Source) (base n codec count : ℕ) (span : Span) : Type 0 where
  pub content : AvlData
  pub accepts : source ≡ Ok (record { content = content; base = base })
  pub codec_is : content.codec ≡ codec
  pub count_is : length content.records ≡ count
  pub span_is : span_of (widths_of content.codec) n 0 content.records ≡ span

module _ {source : Answer Source} {base n codec count : ℕ} {span : Span} (h : Walked source base n codec count span) where
  pub walked-part : n < count → (Ok (record { codec = codec; start = (base + span.start); elements = span.elements; end = (base + span.end) })) ≡ part_of source n
  walked-part k =
      sym (ap (λ (s : Answer Source). part_of s n) h.accepts
      ∙ part-there (record { content = h.content; base = base }) n (subst (λ (m : ℕ). n < m) (sym h.count_is) k)
      ∙ ap₂ (λ (c : ℕ) (s : Span). Ok (record { codec = c; start = base + s.start; end = base + s.end; elements = s.elements })) h.codec_is h.span_is)

  pub walked_none : count ≤ n → (Err (refusal 16)) ≡ part_of source n
  walked_none k =
      sym (ap (λ (s : Answer Source). part_of s n) h.accepts
      ∙ part-beyond (record { content = h.content; base = base }) n (subst (λ (m : ℕ). m ≤ n) (sym h.count_is) k))

  -- the part lies in the input
  pub walked-in : {longest : ℕ} {p : List ℕ} → ((x : Source) → source ≡ Ok x → Stored longest p x) → n < count
      → (base + span.start ≤ base + span.end) × (base + span.end ≤ length p)
  unfolding part_of on_accepted
  walked-in stored k = let q = (part_in stored (λ x. n) _ (walked-part k)).stands _ _ _ _ refl in (q.ordered, q.inside)

module _ {longest base : ℕ} {p : List ℕ} {source : Answer Source} (h : Carried longest base p source) (n : ℕ) where
  pub judged : {codec count : ℕ} {span : Span} → walk_of n source ≡ Ok (record { codec = codec; count = count; span = span })
      → Walked source base n codec count span × (codec < 256)
  unfolding walk_of
  judged e =
      let t = taken n _ e in
      let i = on_accepted-accepted source _ t.accepts in
      let same : i.0.content ≡ t.content = cc i.2 in (
        record {
          content = t.content;
          accepts = i.1 ∙ (λ j. Ok (record { content = same j; base = h.first i.0 i.1 j }));
          codec_is = t.codec_is;
          count_is = t.count_is;
          span_is = t.span_is;
        },
        (taken-fits t (subst (DataRules longest) same (h.stored i.0 i.1).rules)).0,
      )

  pub judge-refused : {r : Refusal} → walk_of n source ≡ Err r → Err r ≡ part_of source n
  unfolding walk_of part_of on_accepted
  judge-refused {r} e = go source (not_taken n _ e)
    where
      go : (s : Answer Source) → on_accepted s (λ x. Ok x.content) ≡ Err r → Err r ≡ part_of s n
      go (Ok x) k = absurd (let z : ◌≡◌ {A = ℕ} 0 1 = cc in omega arith)
      go (Err x) k = let same : x ≡ r = cc in ap Err (sym same)

-- ---- what the two judges tell

abbrev base_or : ℕ → Answer Source → ℕ
base_or base (Ok x) = x.base
base_or base (Err r) = base

module _ (limits : Limits) (p : List ℕ) where
  pub tcp-walk : (n : ℕ) → data_walk n (read_packet limits p) ≡ walk_of n (tcp_source limits p)
  unfolding walk_of tcp_source on_accepted
  tcp-walk n = go (read_packet limits p)
    where
      go : (r : Answer AvlData) → data_walk n r ≡ walk_of n (on_accepted r (λ a. Ok (record { content = a; base = 10 })))
      go (Ok a) = refl
      go (Err x) = refl

  pub udp-walk : (n : ℕ) → data_walk n (payload_of (read_datagram limits p)) ≡ walk_of n (udp_source limits p)
  unfolding walk_of udp_source payload_of on_accepted
  udp-walk n = go (read_datagram limits p)
    where
      go : (r : Answer Datagram) → data_walk n (payload_of r) ≡ walk_of n (on_accepted r (λ g. Ok (record { content = g.payload; base = 25 })))
      go (Ok g) = refl
      go (Err x) = refl

  module _ (bytes : Bytes p) where
    pub tcp-carried : Carried limits.longest 10 p (tcp_source limits p)
    unfolding tcp_source
    tcp-carried =
        record {
          stored = λ x e. tcp-stored limits p x bytes e;
          first = λ x e. let i = on_accepted-accepted (read_packet limits p) _ e in ap (λ (r : Answer Source). base_or 10 r) (sym i.2);
        }

    pub udp-carried : Carried limits.longest 25 p (udp_source limits p)
    unfolding udp_source
    udp-carried =
        record {
          stored = λ x e. udp-stored limits p x bytes e;
          first = λ x e. let i = on_accepted-accepted (read_datagram limits p) _ e in ap (λ (r : Answer Source). base_or 25 r) (sym i.2);
        }
