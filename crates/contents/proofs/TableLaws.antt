-- What is written along a data field is the table of its contents.
use Rattle.std.specs.Prelude.{Err, Ok}
use Prim.Native.Nat.{ℕ, zero, suc, ◌+◌, ◌-◌, ◌*◌, ◌≤◌}
use native.Mathlib.Nat.{add-zero}
use native.Mathlib.Omega.{arith}
use mathlib.Core.Path.{◌≡◌, refl, sym, ap, ap₂, ◌∙◌, subst}
use mathlib.Core.List.{List, [], ◌∷◌, ◌++◌}
use lib.ListN.{length, take, drop, set, length-take, length-drop}
use lib.Seq.{sets}
use Rattle.wire.specs.declared.Limits.{Limits}
use Rattle.wire.specs.declared.Refusal.{Refusal}
use Rattle.wire.specs.Numbers.{Bytes}
use Rattle.wire.specs.Sequences.{joined}
use Rattle.wire.specs.Reading.{Reader, repeat}
use Rattle.wire.specs.Answers.{Answer, on_accepted}
use Rattle.wire.proofs.Widths.{bytes_take, bytes_drop}
use Rattle.wire.proofs.Storing.{sets-append}
use Rattle.wire.proofs.Exactness.{Meets, meets-weaken, meets-pure}
use Rattle.wire.proofs.Accepting.{on_accepted-accepted, on_accepted-passed, on_accepted-refused, first-refused}
use Rattle.avl.specs.declared.Widths.{Widths}
use Rattle.avl.specs.Codecs.{widths_of, kinds}
use Rattle.avl.specs.Records.{Element, AvlRecord, element_bytes, group_bytes, record_bytes}
use Rattle.avl.specs.RecordReader.{plain_record}
use Rattle.avl.specs.DataField.{AvlData, read_data, data_result}
use Rattle.avl.specs.declared.DataResult.{DataResult}
use Rattle.avl.proofs.Inversion.{list_read}
use Rattle.packet.specs.DataPackets.{read_packet}
use Rattle.avl.proofs.FieldLaws.{FieldOf}
use Rattle.walk.proofs.WalkLaws.{narrow}
use Rattle.packet.proofs.FieldLaws.{packet-field, packet-long}
use Rattle.datagram.specs.declared.Header.{Header}
use Rattle.datagram.specs.Datagrams.{Datagram, read_datagram, answer_datagram}
use Rattle.datagram.specs.declared.DatagramResult.{DatagramResult}
use Rattle.datagram.proofs.FieldLaws.{datagram-field, datagram-long}
use Rattle.element.specs.Elements.{lead_size, fixed_size, locate_group, locate_groups, elements}
use Rattle.lookup.specs.Places.{place_records}
use Rattle.lookup.specs.Lookups.{Source, tcp_source, found_in}
use Rattle.lookup.specs.Answers.{value_result}
use Rattle.traverse.specs.declared.Moved.{Moved}
use Rattle.traverse.specs.Texts.{record_text, records_text}
use Rattle.traverse.specs.Copying.{Copies}
use Rattle.traverse.specs.Fields.{field_text, Writes}
use Rattle.traverse.proofs.CopyLaws.{moved}
use Rattle.traverse.proofs.PaceLaws.{joined-append}
use Rattle.traverse.proofs.SizeLaws.{field-size}
use Rattle.traverse.proofs.FieldLaws.{Answers, written-field, refused-whole}
use Rattle.contents.specs.Words.{quad, title_words, value_word}
use Rattle.contents.specs.Contents.{record_contents, contents, no_header, contents_of_packet, contents_of_datagram}
use Rattle.contents.specs.Listing.{listed_word, head_text, field_contents}
use Rattle.contents.proofs.SizeLaws.{word_size, head-size}

-- ---- places counted from the record's start, and from the input's

module _ (w : Widths) (base at : ℕ) where
  run-shifted : (kind x : ℕ) (g : List Element) → joined (listed_word base) (locate_group w kind (at + x) g) ≡ joined (listed_word (base + at)) (locate_group w kind x g)
  unfolding locate_group
  run-shifted kind x [] = refl
  run-shifted kind x (e ∷ g) =
      let here : base + (at + x + lead_size w kind) ≡ base + at + (x + lead_size w kind) = omega arith in
      let next : at + x + length (element_bytes w kind e) ≡ at + (x + length (element_bytes w kind e)) = omega arith in
      ap₂ (λ (n : ℕ) (l : List ℕ). quad e.id kind n (length e.value) ∷ l) here
      (ap (λ (n : ℕ). joined (listed_word base) (locate_group w kind n g)) next ∙ run-shifted kind (x + length (element_bytes w kind e)) g)

  groups-shifted : (ks : List ℕ) (x : ℕ) (gs : List (List Element)) → joined (listed_word base) (locate_groups w ks (at + x) gs) ≡ joined (listed_word (base + at)) (locate_groups w ks x gs)
  unfolding locate_groups
  groups-shifted [] x gs = refl
  groups-shifted (k ∷ ks) x [] = refl
  groups-shifted (k ∷ ks) x (g ∷ gs) =
      let first : at + x + w.count ≡ at + (x + w.count) = omega arith in
      let next : at + x + length (group_bytes w k g) ≡ at + (x + length (group_bytes w k g)) = omega arith in
      joined-append (listed_word base) (locate_group w k (at + x + w.count) g) _
      ∙ ap₂ (λ (a b : List ℕ). a ++ b)
      (ap (λ (n : ℕ). joined (listed_word base) (locate_group w k n g)) first ∙ run-shifted k (x + w.count) g)
      (ap (λ (n : ℕ). joined (listed_word base) (locate_groups w ks n gs)) next ∙ groups-shifted ks (x + length (group_bytes w k g)) gs)
      ∙ sym (joined-append (listed_word (base + at)) (locate_group w k (x + w.count) g) (locate_groups w ks (x + length (group_bytes w k g)) gs))

  record-listed : (r : AvlRecord) → record_text (listed_word base) w (head_text base w) at r ≡ record_contents w (record { start = base + at; content = r })
  unfolding record_contents elements found_in value_result value_word
  record-listed r = ap (λ (l : List ℕ). head_text base w at r ++ l) (groups-shifted (kinds w) (fixed_size w) r.groups)

records-listed : (w : Widths) (base at : ℕ) (rs : List AvlRecord)
    → records_text (record_text (listed_word base) w (head_text base w)) w at rs ≡ joined (record_contents w) (place_records w (base + at) rs)
unfolding records_text place_records
records-listed w base at [] = refl
records-listed w base at (r ∷ rs) =
    let next : base + (at + length (record_bytes w r)) ≡ base + at + length (record_bytes w r) = omega arith in
    ap₂ (λ (a b : List ℕ). a ++ b) (record-listed w base at r)
    (records-listed w base (at + length (record_bytes w r)) rs ∙ ap (λ (n : ℕ). joined (record_contents w) (place_records w n rs)) next)

table-listed : (w : Widths) (base : ℕ) (rs : List AvlRecord)
    → records_text (record_text (listed_word base) w (head_text base w)) w 0 rs ≡ joined (record_contents w) (place_records w base rs)
table-listed w base rs = records-listed w base 0 rs ∙ ap (λ (n : ℕ). joined (record_contents w) (place_records w n rs)) (add-zero base)

pub contents-size : (h : Header) (base longest : ℕ) (d : List ℕ) (a : AvlData) → Bytes d → 3 ≤ length d → read_data longest d ≡ Ok a
    → 2 * length (field_contents h base a) ≤ length d + 1
unfolding contents title_words
contents-size h base longest d a b l e =
    let w = widths_of a.codec in
    let named = (narrow a.codec).named in
    let records = field-size 2 1 (listed_word base) w (word_size w named base) (head_text base w) (head-size w named base) longest 0 d a refl b l e in
    omega (arith, records, ap length (table-listed w base a.records))

-- ---- the packet's words in front

repeat-count : {A : Type 0} (m : Reader A) (n : ℕ) (s : List ℕ) (at : ℕ) → Meets (repeat n m s at) (λ l end. length l ≡ n)
unfolding repeat
repeat-count m zero s at = meets-pure [] s at refl
repeat-count m (suc n) s at =
    meets-weaken (list_read m (repeat n m) s at) (λ l end k. omega (arith, ap length k.is, (repeat-count m n s k.mid).if-got _ _ k.more))

pub contents-copied : (h : Header) (base codec count : ℕ) {w : Widths} {s before mid after : List ℕ} {r : Moved} → w ≡ widths_of codec
    → mid ≡ sets before 0 (title_words (record { codec = codec; count = count }) h)
    → Copies (repeat count (plain_record w)) (records_text (record_text (listed_word base) w (head_text base w)) w) s 0 2 mid after r
    → Copies (repeat count (plain_record (widths_of codec))) (field_text (field_contents h base) codec) s 0 0 before after r
unfolding contents data_result title_words
contents-copied h base codec count {w} {s} {before} {mid} {after} {r} is e c =
    let x = widths_of codec in
    let d = subst (λ (v : Widths). Copies (repeat count (plain_record v)) (records_text (record_text (listed_word base) v (head_text base v)) v) s 0 2 mid after r) is c in
    let title = title_words (record { codec = codec; count = count }) h in
    record {
      moves = λ a n k. d.moves a n k ∙ ap (moved n) (omega (arith, ap length (table-listed x base a)));
      stores = λ a n k.
          let rest = records_text (record_text (listed_word base) x (head_text base x)) x 0 a in
          let many : length a ≡ count = (repeat-count (plain_record x) count s 0).if-got _ _ k in
          d.stores a n k
          ∙ ap (λ (o : List ℕ). sets o 2 rest) e
          ∙ sym (sets-append before 0 title rest)
          ∙ ap (λ (l : List ℕ). sets before 0 (title ++ l)) (table-listed x base a)
          ∙ ap (λ (m : ℕ). sets before 0 (title_words (record { codec = codec; count = m }) h ++ joined (record_contents x) (place_records x base a))) (sym many);
    }

pub title-stored : (l : List ℕ) (a b : ℕ) {o₁ o₂ : List ℕ} {x : ℕ} → o₁ ≡ set l 0 x → x ≡ a → o₂ ≡ set o₁ 1 b → o₂ ≡ sets l 0 (a ∷ b ∷ [])
title-stored l a b e is f = f ∙ ap (λ (o : List ℕ). set o 1 b) (e ∙ ap (set l 0) is)

-- ---- a packet and a datagram

module _ (limits : Limits) (p : List ℕ) where
  pub packet-written : {a : AvlData} → read_packet limits p ≡ Ok a → Bytes p → {before after : List ℕ} {r : Answer ℕ}
      → Writes (field_contents no_header 10) (take (length p - 4 - 8) (drop 8 p)) before after r → Answers (contents_of_packet limits p) before after r
  unfolding contents_of_packet tcp_source
  packet-written e b w = written-field (packet-field limits p e b) (on_accepted-passed (tcp_source limits p) _ (on_accepted-passed (read_packet limits p) _ e)) w

  pub packet-refused : {x : Refusal} {before : List ℕ} → read_packet limits p ≡ Err x → Answers (contents_of_packet limits p) before before (Err x)
  unfolding contents_of_packet tcp_source
  packet-refused e = refused-whole (on_accepted-refused (tcp_source limits p) _ (on_accepted-refused (read_packet limits p) _ e))

  -- what the answer to a datagram tells
  pub datagram-told : {d : DataResult} {h : Header} → Ok (record { payload = d; header = h }) ≡ answer_datagram limits p
      → (g : Datagram) × (read_datagram limits p ≡ Ok g) × (g.header ≡ h)
  unfolding answer_datagram
  datagram-told {d} {h} e =
      let i = on_accepted-accepted (read_datagram limits p) _ (sym e) in
      let same : ◌≡◌ {A = DatagramResult} (record { payload = data_result i.0.payload; header = i.0.header }) (record { payload = d; header = h }) = cc i.2 in
      (i.0, i.1, ap (λ (x : DatagramResult). x.header) same)

  pub datagram-untold : {x : Refusal} → Err x ≡ answer_datagram limits p → read_datagram limits p ≡ Err x
  unfolding answer_datagram
  datagram-untold e = first-refused (read_datagram limits p) _ (λ g r. (_, refl)) (sym e)

  pub datagram-written : {g : Datagram} {h : Header} → read_datagram limits p ≡ Ok g → g.header ≡ h → Bytes p → {before after : List ℕ} {r : Answer ℕ}
      → Writes (field_contents h 25) (take (length p - 23) (drop 23 p)) before after r → Answers (contents_of_datagram limits p) before after r
  unfolding contents_of_datagram
  datagram-written {g} {h} e is b w =
      written-field (datagram-field limits p e b) (on_accepted-passed (read_datagram limits p) _ e ∙ ap (λ (x : Header). Ok (field_contents x 25 g.payload)) is) w

  pub datagram-refused : {x : Refusal} {before : List ℕ} → read_datagram limits p ≡ Err x → Answers (contents_of_datagram limits p) before before (Err x)
  unfolding contents_of_datagram
  datagram-refused e = refused-whole (on_accepted-refused (read_datagram limits p) _ e)

-- ---- how long a table can be: a word for every two bytes of the packet or the datagram

field_room : {longest n : ℕ} (h : Header) (base : ℕ) {d t : List ℕ} {a : AvlData} → Bytes d → FieldOf longest d a → length d + 1 ≤ n → ◌≡◌ {A = Answer (List ℕ)} (Ok (field_contents h base a)) (Ok t) → 2 * length t ≤ n
field_room {longest} {n} h base {d} {t} {a} b k room e =
    let same : field_contents h base a ≡ t = cc in
    omega (arith, ap length same, room, contents-size h base longest d a b k.long k.accepts)

module _ (limits : Limits) (p t : List ℕ) (b : Bytes p) where
  pub packet-room : contents_of_packet limits p ≡ Ok t → 2 * length t ≤ length p
  unfolding contents_of_packet tcp_source
  packet-room e =
      let i = on_accepted-accepted (tcp_source limits p) _ e in
      let j = on_accepted-accepted (read_packet limits p) _ i.1 in
      let long = packet-long limits p j.1 b in
      let content : ◌≡◌ {A = Source} (record { content = j.0; base = 10 }) i.0 = cc j.2 in
      field_room no_header 10 (bytes_take (length p - 4 - 8) (drop 8 p) (bytes_drop 8 p b)) (packet-field limits p j.1 b) (simp (length-take, length-drop) (omega (arith, long))) (ap (λ (x : Source). Ok (contents no_header x)) content ∙ i.2)

  pub datagram-room : contents_of_datagram limits p ≡ Ok t → 2 * length t ≤ length p
  unfolding contents_of_datagram
  datagram-room e =
      let i = on_accepted-accepted (read_datagram limits p) _ e in
      let long = datagram-long limits p i.1 b in
      field_room i.0.header 25 (bytes_take (length p - 23) (drop 23 p) (bytes_drop 23 p b)) (datagram-field limits p i.1 b) (simp (length-take, length-drop) (omega (arith, long))) i.2
