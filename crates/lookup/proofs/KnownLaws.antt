-- The last record of a packet, and the last known value.
use Rattle.std.specs.Prelude.{Err, Ok}
use Prim.Native.Nat.{ℕ, ◌+◌, ◌-◌, ◌%◌, ◌^◌, ◌≤◌, ◌<◌}
use native.Mathlib.Nat.{lt_of_lt_of_le, pow-le-pow_right}
use native.Mathlib.Omega.{arith}
use mathlib.Core.Path.{◌≡◌, refl, sym, ap, ◌∙◌, subst}
use mathlib.Core.Bool.{Bool, true, false}
use mathlib.Core.List.{List, []}
use lib.ListN.{length, get_or}
use Rattle.wire.specs.declared.Limits.{Limits}
use Rattle.wire.specs.declared.Refusal.{Refusal}
use Rattle.wire.specs.Numbers.{Bytes, digits, pick}
use Rattle.wire.specs.Places.{behind}
use Rattle.wire.specs.Answers.{Answer, on_accepted, refusal}
use Rattle.wire.proofs.Accepting.{pick_true, pick-false, on_accepted-accepted, on_accepted-refused}
use Rattle.wire.proofs.Widths.{byte_pos}
use Rattle.wire.specs.Envelope.{enclosed}
use Rattle.avl.specs.declared.Widths.{Widths}
use Rattle.avl.specs.Codecs.{widths_of}
use Rattle.avl.specs.Records.{AvlRecord, element_count, record_bytes, RecordRules}
use Rattle.avl.specs.DataField.{data_bytes}
use Rattle.avl.specs.Narrow.{Narrow}
use Rattle.walk.proofs.WalkLaws.{narrow}
use Rattle.frame.specs.Frame.{framed}
use Rattle.frame.proofs.FrameLaws.{length-framed}
use Rattle.packet.specs.DataPackets.{packet_bytes, read_packet}
use Rattle.packet.proofs.PacketLaws.{packet-exact}
use Rattle.element.specs.declared.Value.{Value}
use Rattle.element.specs.Elements.{Located, elements, first_with, passed_for}
use Rattle.element.proofs.ElementLaws.{length-elements}
use Rattle.element.proofs.SearchLaws.{passed-most}
use Rattle.lookup.specs.Places.{Placed}
use Rattle.lookup.specs.Lookups.{Source, tcp_source, placed_record, Found, found_in, view, LastKnown, value_in, value_in_last, in_older, or_else, last_known, or_none, passed_in_last, if_none, passed_by_last, known_place}
use Rattle.lookup.specs.Answers.{part_of, last_part, PartIn, ValueIn, PassedIn, Within, view_of, value_result, answer_value, answer_known, known_view}
use Rattle.lookup.specs.declared.Known.{Known}
use Rattle.lookup.specs.declared.Part.{Part}
use Rattle.lookup.specs.Carriers.{Stored}
use Rattle.lookup.proofs.PlaceLaws.{tcp-stored, first_member, kept}
use Rattle.lookup.proofs.PartLaws.{part-there, part_in, part-answer, value-view, first-sixteen}

-- ---- the last record of a TCP packet

abbrev pub last_number : Source → ℕ
last_number x = length x.content.records - 1

-- the first count of an accepted packet
pub tcp-count : (limits : Limits) (p : List ℕ) (x : Source) → Bytes p → tcp_source limits p ≡ Ok x
    → (10 ≤ length p) × (get_or p 9 0 ≡ length x.content.records) × (1 ≤ length x.content.records)
unfolding tcp_source packet_bytes framed data_bytes enclosed digits
tcp-count limits p x h e =
    let i = on_accepted-accepted (read_packet limits p) _ e in
    let a = i.0 in
    let k = (packet-exact limits p a h).0 i.1 in
    let few = k.rules.count_fits in
    let count : length a.records % 256 ≡ length a.records = omega arith in
    let same : ◌≡◌ {A = Source} (record { content = a; base = 10 }) x = cc i.2 in
    subst (λ (y : Source). (10 ≤ length p) × (get_or p 9 0 ≡ length y.content.records) × (1 ≤ length y.content.records)) same
    (omega (arith, ap length k.whole, length-framed (data_bytes a)), ap (λ (l : List ℕ). get_or l 9 0) k.whole ∙ count, k.rules.some_records)

-- the number that the count gives is the last one's
pub last-number : (source : Answer Source) (n : ℕ) → ((x : Source) → source ≡ Ok x → n ≡ last_number x) → part_of source n ≡ last_part source
unfolding last_part part_of on_accepted
last-number (Ok x) n h = ap (part_of (Ok x)) (h x refl)
last-number (Err x) n h = refl

-- an accepted packet has a last record
pub last-refused : (limits : Limits) (p : List ℕ) {x : Refusal} → Bytes p → Err x ≡ last_part (tcp_source limits p) → tcp_source limits p ≡ Err x
unfolding last_part on_accepted
last-refused limits p {x} h e = go (tcp_source limits p) refl e
  where
    go : (source : Answer Source) → tcp_source limits p ≡ source → Err x ≡ last_part source → source ≡ Err x
    go (Ok a) same e =
        let k = tcp-count limits p a h same in
        let there = part-there a (last_number a) (omega (arith, k.2)) in
        absurd (let z : ◌≡◌ {A = ℕ} 0 1 = cc in omega arith)
    go (Err y) same e = ap Err (cc)

-- ---- the last known value

-- the value in the last record
abbrev pub in_last : ℕ → Answer Source → Answer Found
in_last id source = on_accepted source (value_in_last id)

module _ (limits : Limits) (p : List ℕ) (bytes : Bytes p) where
  stored : (x : Source) → tcp_source limits p ≡ Ok x → Stored limits.longest p x
  stored x e = tcp-stored limits p x bytes e

  pub last-in : (part : Answer Part) → part ≡ last_part (tcp_source limits p) → PartIn p part
  unfolding last_part
  last-in part e = part_in stored last_number part e

  pub last-value : (id : ℕ) (part : Answer Part) (answer : Answer Value) → part ≡ last_part (tcp_source limits p) → ValueIn p part (first_with id) answer
      → answer ≡ answer_value (in_last id (tcp_source limits p))
  unfolding last_part value_in_last value_in
  last-value id part answer e k = part-answer stored last_number part e k

  pub last_view : (id : ℕ) (answer : Answer Value) → answer ≡ answer_value (in_last id (tcp_source limits p))
      → Within p answer × (view_of p answer ≡ view (in_last id (tcp_source limits p)))
  unfolding value_in_last
  last_view id answer e = value-view stored last_number (first_with id) (first_member id) answer e

  pub last-passed : (id : ℕ) (part : Answer Part) (passed : ℕ) → part ≡ last_part (tcp_source limits p) → PassedIn p part id passed → passed ≡ passed_in_last id (tcp_source limits p)
  unfolding last_part passed_in_last
  last-passed id part passed e k = part-answer stored last_number part e k

  -- no more than a total can say
  pub last-few : (id : ℕ) → passed_in_last id (tcp_source limits p) < 256 ^ 2
  unfolding passed_in_last or_none on_accepted
  last-few id = whole (tcp_source limits p) stored
    where
      counted : (longest : ℕ) (w : Widths) (r : AvlRecord) → Narrow w → RecordRules longest w r → passed_for id (elements w r) < 256 ^ 2
      counted longest w r n k = omega (arith, passed-most id (elements w r), length-elements longest w r k, lt_of_lt_of_le k.total_fits (pow-le-pow_right byte_pos n.count))

      of-record : (x : Source) → Stored limits.longest p x → (r : Answer Placed) → placed_record x (last_number x) ≡ r
          → or_none (on_accepted r (λ r. Ok (passed_for id (elements (widths_of x.content.codec) r.content)))) < 256 ^ 2
      of-record x h (Ok r) e = counted limits.longest _ r.content (narrow x.content.codec) (kept limits.longest p x (last_number x) r h e).rules
      of-record x h (Err y) e = omega arith

      whole : (source : Answer Source) → ((x : Source) → source ≡ Ok x → Stored limits.longest p x) → passed_in_last id source < 256 ^ 2
      whole (Ok x) h = of-record x (h x refl) (placed_record x (last_number x)) refl
      whole (Err y) h = omega arith

abbrev marked : Bool → Answer Found → Answer LastKnown
marked older found = on_accepted found (λ f. Ok (record { older = older; found = f }))

in-older : (id : ℕ) (source : Answer Source) → in_older id source ≡ marked true (in_last id source)
unfolding in_older on_accepted
in-older id (Ok x) = refl
in-older id (Err x) = refl

-- the answer to a value as one to a last known value
abbrev pub as_known : Bool → Answer Value → Answer Known
as_known older (Ok v) = Ok (record { older = older; value = v })
as_known older (Err r) = Err r

abbrev marked_value : Bool → Answer Value → Answer Known
marked_value older value = on_accepted value (λ v. Ok (record { older = older; value = v }))

as-known : (older : Bool) (answer : Answer Value) (found : Answer Found) → answer ≡ answer_value found → (as_known older answer) ≡ answer_known (marked older found)
unfolding answer_known answer_value on_accepted
as-known older answer found e = told answer ∙ ap (marked_value older) e ∙ same found
  where
    told : (a : Answer Value) → (as_known older a) ≡ marked_value older a
    told (Ok v) = refl
    told (Err r) = refl

    same : (f : Answer Found) → marked_value older (answer_value f) ≡ answer_known (marked older f)
    same (Ok f) = refl
    same (Err x) = refl

known-as : (older past : Bool) (v : Value) (found : Answer Found) → (Ok (record { older = past; value = v })) ≡ answer_known (marked older found)
    → (past ≡ older) × (((Ok v) ≡ answer_value found) × (view found ≡ known_view (marked older found)))
unfolding answer_known answer_value on_accepted view known_view
known-as older past v (Ok f) e =
    let same : ◌≡◌ {A = Known} (record { older = past; value = v }) (record { older = older; value = value_result f }) = cc in
    (ap (λ (k : Known). k.older) same, (ap (λ (k : Known). Ok k.value) same, refl))
known-as older past v (Err x) e = absurd (let z : ◌≡◌ {A = ℕ} 0 1 = cc in omega arith)

-- where the newer packet is refused, the refusal
pub known-refused : (id : ℕ) (newer older : Answer Source) (r : Refusal) → newer ≡ Err r
    → (Err r) ≡ answer_known (last_known id newer older)
unfolding answer_known last_known
known-refused id newer older r e = sym (on_accepted-refused _ _ (on_accepted-refused newer _ e))

-- where its last record has the ID, the value there
pub known-newer : (id : ℕ) (newer older : Answer Source) (v : Value) → (Ok v) ≡ answer_value (in_last id newer)
    → (Ok (record { older = false; value = v })) ≡ answer_known (last_known id newer older)
unfolding answer_value last_known or_else on_accepted
known-newer id (Err x) older v e = absurd (let z : ◌≡◌ {A = ℕ} 0 1 = cc in omega arith)
known-newer id (Ok x) older v e = as-known false (Ok v) (value_in_last id x) e ∙ ap answer_known (go (value_in_last id x) e)
  where
    go : (found : Answer Found) → (Ok v) ≡ answer_value found → marked false found ≡ or_else (marked false found) (in_older id older)
    go (Ok f) e = refl
    go (Err x) e = absurd (let z : ◌≡◌ {A = ℕ} 0 1 = cc in omega arith)

-- else what the older packet's last record gives
pub known-older : (id : ℕ) (newer older : Answer Source) {q : Part} {y : Refusal} → Ok q ≡ last_part newer → Err y ≡ answer_value (in_last id newer)
    → in_older id older ≡ last_known id newer older
unfolding answer_value last_known last_part or_else on_accepted
known-older id (Err x) older e k = absurd (let z : ◌≡◌ {A = ℕ} 0 1 = cc in omega arith)
known-older id (Ok x) older {q} {y} e k = go (value_in_last id x) k
  where
    go : (found : Answer Found) → Err y ≡ answer_value found → in_older id older ≡ or_else (marked false found) (in_older id older)
    go (Ok f) e = absurd (let z : ◌≡◌ {A = ℕ} 0 1 = cc in omega arith)
    go (Err x) e = refl

pub known-in-older : (id : ℕ) (older : Answer Source) (answer : Answer Value) → answer ≡ answer_value (in_last id older)
    → (as_known true answer) ≡ answer_known (in_older id older)
known-in-older id older answer h = as-known true answer (in_last id older) h ∙ ap answer_known (sym (in-older id older))

-- a refused packet has no value
pub last_none : (id : ℕ) (source : Answer Source) {r : Refusal} → source ≡ Err r → ((Err r) ≡ answer_value (in_last id source)) × (passed_in_last id source ≡ 0)
unfolding answer_value passed_in_last or_none on_accepted
last_none id source e = (ap (λ (s : Answer Source). answer_value (in_last id s)) (sym e), ap (passed_in_last id) e)

-- what is not in a last record is refused with 16
pub last-sixteen : (id : ℕ) (source : Answer Source) {q : Part} (y : Refusal) → Ok q ≡ last_part source → (Err y) ≡ answer_value (in_last id source)
    → y ≡ refusal 16
unfolding answer_value last_part part_of value_in_last value_in on_accepted
last-sixteen id (Err x) y e k = absurd (let z : ◌≡◌ {A = ℕ} 0 1 = cc in omega arith)
last-sixteen id (Ok x) {q} y e k = go (placed_record x (last_number x)) e k
  where
    at : (r : Placed) (a : Answer Located) → first_with id (elements (widths_of x.content.codec) r.content) ≡ a → Err y ≡ answer_value (on_accepted a (λ e. Ok (found_in r e))) → y ≡ refusal 16
    at r (Ok a) h k = absurd (let z : ◌≡◌ {A = ℕ} 0 1 = cc in omega arith)
    at r (Err z) h k = let same : y ≡ z = cc in same ∙ first-sixteen id (elements (widths_of x.content.codec) r.content) z h

    go : (r : Answer Placed)
        → Ok q ≡ on_accepted r (λ r. Ok (record { codec = x.content.codec; start = r.start; end = r.start + length (record_bytes (widths_of x.content.codec) r.content); elements = element_count r.content.groups }))
        → Err y ≡ answer_value (on_accepted r (λ r. on_accepted (first_with id (elements (widths_of x.content.codec) r.content)) (λ e. Ok (found_in r e)))) → y ≡ refusal 16
    go (Ok r) e k = at r (first_with id (elements (widths_of x.content.codec) r.content)) refl k
    go (Err z) e k = absurd (let z : ◌≡◌ {A = ℕ} 0 1 = cc in omega arith)

-- ---- how many elements are passed

-- none where the newer packet is refused
pub passed-refused : (id : ℕ) (newer older : Answer Source) {r : Refusal} → newer ≡ Err r → 0 ≡ passed_by_last id newer older
unfolding passed_by_last or_none
passed-refused id newer older e = sym (ap or_none (on_accepted-refused newer _ e))

-- those of its last record where that has the ID
pub passed-newer : (id : ℕ) (newer older : Answer Source) (v : Value) {n : ℕ} → (Ok v) ≡ answer_value (in_last id newer) → n ≡ passed_in_last id newer
    → n ≡ passed_by_last id newer older
unfolding answer_value passed_by_last or_none on_accepted if_none
passed-newer id (Err x) older v e h = absurd (let z : ◌≡◌ {A = ℕ} 0 1 = cc in omega arith)
passed-newer id (Ok x) older v {n} e h = go (value_in_last id x) e
  where
    go : (found : Answer Found) → (Ok v) ≡ answer_value found → n ≡ passed_in_last id (Ok x) + if_none found (passed_in_last id older)
    go (Ok f) e = omega (arith, h)
    go (Err y) e = absurd (let z : ◌≡◌ {A = ℕ} 0 1 = cc in omega arith)

-- else the older's with them
pub passed-older : (id : ℕ) (newer older : Answer Source) {q : Part} {y : Refusal} {n : ℕ} → Ok q ≡ last_part newer → Err y ≡ answer_value (in_last id newer)
    → n ≡ passed_in_last id newer → n + passed_in_last id older ≡ passed_by_last id newer older
unfolding answer_value last_part passed_by_last or_none on_accepted if_none
passed-older id (Err x) older e k h = absurd (let z : ◌≡◌ {A = ℕ} 0 1 = cc in omega arith)
passed-older id (Ok x) older {q} {y} {n} e k h = go (value_in_last id x) k
  where
    go : (found : Answer Found) → Err y ≡ answer_value found → n + passed_in_last id older ≡ passed_in_last id (Ok x) + if_none found (passed_in_last id older)
    go (Ok f) e = absurd (let z : ◌≡◌ {A = ℕ} 0 1 = cc in omega arith)
    go (Err r) e = ap (λ (m : ℕ). m + passed_in_last id older) h

-- ---- the view

-- the packet and the record in which it is found
pub known_in : (id : ℕ) (newer older : Answer Source) (past : Bool) (v : Value) → (Ok (record { older = past; value = v })) ≡ answer_known (last_known id newer older)
    → ((Ok v) ≡ answer_value (pick past (in_last id older) (in_last id newer)))
    × (view (pick past (in_last id older) (in_last id newer)) ≡ known_view (last_known id newer older))
unfolding answer_known last_known or_else on_accepted
known_in id (Err x) older past v e = absurd (let z : ◌≡◌ {A = ℕ} 0 1 = cc in omega arith)
known_in id (Ok x) older past v e = go (value_in_last id x) e
  where
    go : (found : Answer Found) → (Ok (record { older = past; value = v })) ≡ answer_known (or_else (marked false found) (in_older id older))
        → ((Ok v) ≡ answer_value (pick past (in_last id older) found))
        × (view (pick past (in_last id older) found) ≡ known_view (or_else (marked false found) (in_older id older)))
    go (Ok f) e =
        let k = known-as false past v (Ok f) e in
        let there = pick-false past (in_last id older) (Ok f) k.0 in
        (k.1.0 ∙ ap answer_value (sym there), ap view there ∙ k.1.1)
    go (Err x) e =
        let k = known-as true past v (in_last id older) (e ∙ ap answer_known (in-older id older)) in
        let there = pick_true past (in_last id older) (Err x) k.0 in
        (k.1.0 ∙ ap answer_value (sym there), ap view there ∙ k.1.1 ∙ ap known_view (sym (in-older id older)))

pub known-nowhere : (known : Answer LastKnown) {x : Refusal} → Err x ≡ answer_known known → [] ≡ known_view known
unfolding answer_known on_accepted known_view
known-nowhere (Ok k) e = absurd (let z : ◌≡◌ {A = ℕ} 0 1 = cc in omega arith)
known-nowhere (Err x) e = refl

-- the place of the view
pub known-place : (known : Answer LastKnown) (newer older : ℕ × ℕ) (past : Bool) (v : Value) → (Ok (record { older = past; value = v })) ≡ answer_known known
    → behind (pick past older newer) v.offset ≡ known_place known newer older
unfolding answer_known on_accepted known_place value_result
known-place (Ok k) newer older past v e =
    let same : ◌≡◌ {A = Known} (record { older = past; value = v }) (record { older = k.older; value = value_result k.found }) = cc in
    ap (λ (x : Known). behind (pick x.older older newer) x.value.offset) same
known-place (Err x) newer older past v e = absurd (let z : ◌≡◌ {A = ℕ} 0 1 = cc in omega arith)

pub known-empty : (known : Answer LastKnown) (newer older : ℕ × ℕ) {x : Refusal} → Err x ≡ answer_known known → behind newer 0 ≡ known_place known newer older
unfolding answer_known on_accepted known_place
known-empty (Ok k) newer older e = absurd (let z : ◌≡◌ {A = ℕ} 0 1 = cc in omega arith)
known-empty (Err x) newer older e = refl
