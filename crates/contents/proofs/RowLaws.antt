-- What a caller reads of a table is what the look-ups give, for all records and values, and nothing else is in it.
use Rattle.std.specs.Prelude.{Err, Ok}
use Prim.Native.Nat.{ℕ, zero, suc, ◌+◌, ◌*◌, ◌^◌, ◌≤◌, ◌<◌}
use native.Mathlib.Nat.{pow-le-pow_right, le_trans}
use native.Mathlib.Omega.{arith}
use mathlib.Core.Path.{◌≡◌, refl, sym, ap, ap₂, ◌∙◌, subst}
use mathlib.Core.List.{List, [], ◌∷◌, ◌++◌, append_assoc}
use lib.ListN.{length, take, drop, get_or, length-append, length-drop}
use lib.Seq.{drop_at, take_at, drop-drop, get_or-drop}
use Rattle.wire.specs.declared.Limits.{Limits}
use Rattle.wire.proofs.LimitLaws.{Most}
use Rattle.wire.specs.Numbers.{Bytes, be}
use Rattle.wire.specs.Sequences.{joined, All}
use Rattle.wire.specs.Answers.{Answer, on_accepted}
use Rattle.wire.proofs.Widths.{byte_pos, all_append}
use borrow.Author.Tests.{le-leb}
use Rattle.wire.proofs.Accepting.{check-passed, on_accepted-accepted, on_accepted-passed}
use Rattle.avl.specs.declared.Widths.{Widths}
use Rattle.avl.specs.Codecs.{widths_of, kinds}
use Rattle.avl.specs.Records.{Element, AvlRecord, element_bytes, element_count, record_bytes, ElementRules, GroupsRules, RecordRules, group_bytes}
use Rattle.avl.specs.DataField.{AvlData, data_result}
use Rattle.avl.specs.declared.DataResult.{DataResult}
use Rattle.avl.proofs.DataLaws.{codec-fits}
use Rattle.avl.specs.Narrow.{Narrow}
use Rattle.walk.proofs.KindLaws.{KindRange, kinds-range}
use Rattle.walk.proofs.WalkLaws.{narrow}
use Rattle.packet.specs.DataPackets.{read_packet, answer_packet, acknowledged, tcp_acknowledgement}
use Rattle.packet.proofs.PacketLaws.{packet-exact}
use Rattle.packet.proofs.FieldLaws.{packet-most}
use Rattle.datagram.specs.declared.Header.{Header}
use Rattle.datagram.specs.Datagrams.{Datagram, HeaderRules, read_datagram, payload_of, answer_datagram, acknowledgement_bytes, udp_acknowledgement}
use Rattle.datagram.proofs.DatagramLaws.{datagram-exact}
use Rattle.datagram.proofs.FieldLaws.{datagram-most}
use Rattle.element.specs.declared.RecordFields.{RecordFields}
use Rattle.element.specs.declared.Value.{Value}
use Rattle.element.specs.Elements.{Located, locate_group, locate_groups, fixed_size, elements, nth}
use Rattle.element.specs.Places.{part, Inside}
use Rattle.element.specs.Results.{record_result}
use Rattle.element.proofs.ElementLaws.{elements-inside, length-elements}
use Rattle.lookup.specs.Places.{Placed, place_records}
use Rattle.lookup.specs.Lookups.{Source, tcp_source, udp_source, placed_record, record_by_number, value_by_number, value_in, found_in}
use Rattle.lookup.specs.Answers.{part_of, value_result, answer_value}
use Rattle.lookup.specs.Carriers.{Stored}
use Rattle.lookup.proofs.PlaceLaws.{tcp-stored, udp-stored, Kept, all-kept, local}
use Rattle.contents.specs.Words.{title_words, record_words, value_word, title_result, title_header, record_of, value_of}
use Rattle.contents.specs.Contents.{element_word, record_contents, contents, no_header, contents_of_packet, contents_of_datagram}
use Rattle.contents.specs.Rows.{Row, values_of, row_of, rows_from, rows_of, rows_size, RowsAhead, place_of, Lists}
use Rattle.contents.proofs.SizeLaws.{length-words, record-size}
use Rattle.contents.proofs.WordLaws.{record-again, start-again, size-again, value-again, title-again, header-again}

-- ---- what the look-ups give, as rows

abbrev pub values_in : Placed → List Located → List Value
values_in r [] = []
values_in r (e ∷ l) = value_result (found_in r e) ∷ values_in r l

abbrev pub row_in : Widths → Placed → Row
row_in w r = record { start = r.start; size = length (record_bytes w r.content); fields = record_result r.content; values = values_in r (elements w r.content) }

abbrev pub rows_in : Widths → List Placed → List Row
rows_in w [] = []
rows_in w (r ∷ rs) = row_in w r ∷ rows_in w rs

length-values : (r : Placed) (l : List Located) → length (values_in r l) ≡ length l
length-values r [] = refl
length-values r (e ∷ l) = ap suc (length-values r l)

-- ---- all fields fit

abbrev Named : Located → Type 0
Named e = (e.id < 2 ^ 16) × (e.kind < 2 ^ 8)

id-fits : {w : Widths} {n : ℕ} → Narrow w → n < 256 ^ w.id → n < 2 ^ 16
id-fits k h = le_trans h (pow-le-pow_right byte_pos k.id)

module _ (w : Widths) (k : Narrow w) where
  group-named : (kind at : ℕ) (g : List Element) → kind ≤ 9 → All (ElementRules w kind) g → All Named (locate_group w kind at g)
  unfolding locate_group
  group-named kind at [] h r = tt
  group-named kind at (e ∷ g) h r = ((id-fits k r.0.id_fits, omega (arith, h)), group-named kind (at + length (element_bytes w kind e)) g h r.1)

  groups-named : (ks : List ℕ) (at : ℕ) (gs : List (List Element)) → All KindRange ks → GroupsRules w ks gs → All Named (locate_groups w ks at gs)
  unfolding locate_groups
  groups-named [] at gs h r = tt
  groups-named (i ∷ ks) at [] h r = tt
  groups-named (i ∷ ks) at (g ∷ gs) h r =
      all_append Named (locate_group w i (at + w.count) g) (locate_groups w ks (at + length (group_bytes w i g)) gs) (group-named i _ g h.0.1 r.0.each) (groups-named ks (at + length (group_bytes w i g)) gs h.1 r.1)

-- a record in an input of less than 2^16 bytes
record Fits (w : Widths) (r : Placed) : Type 0 where
  rules : (longest : ℕ) × RecordRules longest w r.content
  ends : r.start + length (record_bytes w r.content) < 2 ^ 16

module _ (w : Widths) (k : Narrow w) (r : Placed) (h : Fits w r) where
  size_fits : 2 * (4 + element_count r.content.groups) ≤ length (record_bytes w r.content)
  size_fits = record-size w k.named r.content h.rules.1.groups_keep

  -- the words of values are read as values
  values-read : (l : List Located) → All Named l → All (λ e. Inside e (record_bytes w r.content)) l → values_of (joined (element_word r) l) ≡ values_in r l
  unfolding values_of value_result found_in
  values-read [] a b = refl
  values-read (e ∷ l) a b =
      ap₂ (λ (v : Value) (vs : List Value). v ∷ vs)
      (value-again (value_result (found_in r e)) a.0.0 a.0.1 (omega (arith, b.0.within, h.ends)) (omega (arith, b.0.within, h.ends)))
      (values-read l a.1 b.1)

  abbrev words : List ℕ
  words = joined (element_word r) (elements w r.content)

  count-is : length words ≡ element_count r.content.groups
  count-is = length-words (λ (e : Located). value_word (value_result (found_in r e))) (elements w r.content) ∙ length-elements h.rules.0 w r.content h.rules.1

  abbrev head : List ℕ
  head = record_words r.content.fixed r.start (length (record_bytes w r.content)) (element_count r.content.groups)

  module _ (rest : List ℕ) where
    parted : record_contents w r ++ rest ≡ head ++ (words ++ rest)
    unfolding record_contents
    parted = append_assoc head words rest

    event : r.content.fixed.event < 2 ^ 16
    event = le_trans h.rules.1.fixed_keep.event_fits (pow-le-pow_right byte_pos k.event)

    starts : r.start < 2 ^ 16
    starts = omega (arith, h.ends)

    sized : length (record_bytes w r.content) < 2 ^ 16
    sized = omega (arith, h.ends)

    few : element_count r.content.groups < 2 ^ 16
    few = omega (arith, h.ends, size_fits)

    fields_read : record_of (head ++ (words ++ rest)) ≡ record_result r.content
    unfolding record_result
    fields_read = record-again w r.content.fixed h.rules.1.fixed_keep r.start (length (record_bytes w r.content)) (element_count r.content.groups) event starts sized few (words ++ rest)

    count-read : (record_of (head ++ (words ++ rest))).elements ≡ length words
    unfolding record_result
    count-read = ap (λ (f : RecordFields). f.elements) fields_read ∙ sym count-is

    behind : drop 4 (head ++ (words ++ rest)) ≡ words ++ rest
    unfolding record_words
    behind = refl

    named : All Named (elements w r.content)
    unfolding elements
    named = groups-named w k (kinds w) (fixed_size w) r.content.groups (kinds-range w) h.rules.1.groups_keep

    row_read : row_of (record_contents w r ++ rest) ≡ row_in w r
    unfolding row_of
    row_read =
        let first = start-again w r.content.fixed h.rules.1.fixed_keep r.start (length (record_bytes w r.content)) (element_count r.content.groups) event starts sized few (words ++ rest) in
        let second = size-again w r.content.fixed h.rules.1.fixed_keep r.start (length (record_bytes w r.content)) (element_count r.content.groups) event starts sized few (words ++ rest) in
        let own : take (record_of (head ++ (words ++ rest))).elements (drop 4 (head ++ (words ++ rest))) ≡ words =
        ap₂ (λ (n : ℕ) (l : List ℕ). take n l) count-read behind ∙ take_at words rest (length words) refl in
        let fourth = ap values_of own ∙ values-read (elements w r.content) named (elements-inside w r.content) in
        ap row_of parted ∙ (λ i. record { start = first i; size = second i; fields = fields_read i; values = fourth i })

    contents-long : length (record_contents w r) ≡ 4 + length words
    unfolding record_contents record_words
    contents-long = omega arith

    -- and what follows is the next record's
    next-read : drop (4 + (record_of (record_contents w r ++ rest)).elements) (record_contents w r ++ rest) ≡ rest
    next-read =
        let long : length (record_contents w r) ≡ 4 + (record_of (record_contents w r ++ rest)).elements =
        contents-long ∙ ap (λ (n : ℕ). 4 + n) (sym (ap (λ (t : List ℕ). (record_of t).elements) parted ∙ count-read)) in
        drop_at (record_contents w r) rest _ long

-- ---- record by record

rows-read : (w : Widths) → Narrow w → (rs : List Placed) → All (Fits w) rs → rows_from (length rs) (joined (record_contents w) rs) ≡ rows_in w rs
unfolding rows_from
rows-read w k [] h = refl
rows-read w k (r ∷ rs) h =
    let rest = joined (record_contents w) rs in
    ap₂ (λ (x : Row) (xs : List Row). x ∷ xs) (row_read w k r h.0 rest) (ap (rows_from (length rs)) (next-read w k r h.0 rest) ∙ rows-read w k rs h.1)

rows-size : (w : Widths) (rs : List Placed) → length (joined (record_contents w) rs) ≡ rows_size (rows_in w rs)
unfolding rows_size record_contents record_words
rows-size w [] = refl
rows-size w (r ∷ rs) =
    let words = joined (element_word r) (elements w r.content) in
    omega (
      arith,
      length-append words (joined (record_contents w) rs),
      length-words (λ (e : Located). value_word (value_result (found_in r e))) (elements w r.content),
      length-values r (elements w r.content),
      rows-size w rs,
    )

-- ---- look-ups in lists of rows

nth-row : {B : Type 0} (w : Widths) (f : Row → Answer B) (n : ℕ) (rs : List Placed) → on_accepted (nth n (rows_in w rs)) f ≡ on_accepted (nth n rs) (λ r. f (row_in w r))
unfolding nth on_accepted
nth-row w f n [] = refl
nth-row w f zero (r ∷ rs) = refl
nth-row w f (suc n) (r ∷ rs) = nth-row w f n rs

nth-value : (r : Placed) (k : ℕ) (l : List Located) → nth k (values_in r l) ≡ answer_value (on_accepted (nth k l) (λ e. Ok (found_in r e)))
unfolding nth on_accepted answer_value
nth-value r k [] = refl
nth-value r zero (e ∷ l) = refl
nth-value r (suc k) (e ∷ l) = nth-value r k l

-- ---- the table of an accepted input

placed-count : (w : Widths) (at : ℕ) (rs : List AvlRecord) → length (place_records w at rs) ≡ length rs
unfolding place_records
placed-count w at [] = refl
placed-count w at (r ∷ rs) = ap suc (placed-count w (at + length (record_bytes w r)) rs)

all_fit : (longest : ℕ) (w : Widths) (p : List ℕ) → length p < 2 ^ 16 → (rs : List Placed) → All (Kept longest w p) rs → All (Fits w) rs
all_fit longest w p h [] k = tt
all_fit longest w p h (r ∷ rs) k = (record { rules = (longest, k.0.rules); ends = omega (arith, h, k.0.stands.inside) }, all_fit longest w p h rs k.1)

module _ (longest : ℕ) (p : List ℕ) (x : Source) (h : Header) (short : length p < 2 ^ 16) (stored : Stored longest p x) (rules : HeaderRules h) where
  abbrev w : Widths
  w = widths_of x.content.codec

  abbrev placed : List Placed
  placed = place_records w x.base x.content.records

  codec-small : x.content.codec < 2 ^ 16
  codec-small = omega (arith, codec-fits _ stored.rules.codec_known)

  count_small : length x.content.records < 2 ^ 16
  count_small = omega (arith, stored.rules.count_fits)

  pub title-is : title_result (contents h x) ≡ data_result x.content
  unfolding contents data_result
  title-is = title-again (data_result x.content) h codec-small count_small rules (joined (record_contents w) placed)

  pub header_is : title_header (contents h x) ≡ h
  unfolding contents data_result
  header_is = header-again (data_result x.content) h codec-small count_small rules (joined (record_contents w) placed)

  behind-title : drop 2 (contents h x) ≡ joined (record_contents w) placed
  unfolding contents title_words
  behind-title = refl

  pub rows_are : rows_of (contents h x) ≡ rows_in w placed
  unfolding rows_of data_result
  rows_are =
      let fit = all_fit longest w p short placed (all-kept longest w p x.content.records x.base _ stored.rules.each stored.tiles.1) in
      ap₂ (λ (d : DataResult) (t : List ℕ). rows_from d.count t) title-is behind-title
      ∙ ap (λ (n : ℕ). rows_from n (joined (record_contents w) placed)) (sym (placed-count w x.base x.content.records))
      ∙ rows-read w (narrow x.content.codec) placed fit

  of-rows : {B : Type 0} (f : Row → Answer B) (n : ℕ) → on_accepted (placed_record x n) (λ r. f (row_in w r)) ≡ on_accepted (nth n (rows_of (contents h x))) f
  unfolding placed_record
  of-rows f n = sym (ap (λ (rs : List Row). on_accepted (nth n rs) f) rows_are ∙ nth-row w f n placed)

  values-of : (n k : ℕ) → answer_value (value_in (nth k) x n) ≡ on_accepted (placed_record x n) (λ r. nth k (values_in r (elements w r.content)))
  unfolding value_in answer_value on_accepted
  values-of n k = go (placed_record x n)
    where
      go : (a : Answer Placed)
          → answer_value (on_accepted a (λ r. on_accepted (nth k (elements w r.content)) (λ e. Ok (found_in r e)))) ≡ on_accepted a (λ r. nth k (values_in r (elements w r.content)))
      go (Ok r) = sym (nth-value r k (elements w r.content))
      go (Err y) = refl

  pub lists : {source : Answer Source} → source ≡ Ok x → Lists source (contents h x)
  unfolding record_by_number part_of value_by_number value_in answer_value on_accepted record_result data_result contents title_words
  lists {source} e =
      record {
        records = λ n. on_accepted-passed source _ e ∙ of-rows (λ row. Ok row.fields) n;
        places = λ n. on_accepted-passed source _ e ∙ of-rows (λ row. Ok (place_of x.content.codec row)) n
            ∙ ap (λ (d : DataResult). on_accepted (nth n (rows_of (contents h x))) (λ row. Ok (place_of d.codec row))) (sym title-is);
        values = λ n k. ap answer_value (on_accepted-passed source _ e) ∙ values-of n k ∙ of-rows (λ row. nth k row.values) n;
        whole = omega (arith, rows-size w placed, ap rows_size rows_are);
      }

-- ---- a record's words are made of where it starts and of its own bytes

pub contents-local : (longest : ℕ) (p q : List ℕ) (x y : Source) (m n : ℕ) (r t : Placed) → Stored longest p x → Stored longest q y
    → x.content.codec ≡ y.content.codec → placed_record x m ≡ Ok r → placed_record y n ≡ Ok t
    → part p r.start (length (record_bytes (widths_of x.content.codec) r.content))
    ≡ part q t.start (length (record_bytes (widths_of x.content.codec) r.content))
    → r.start ≡ t.start → record_contents (widths_of x.content.codec) r ≡ record_contents (widths_of x.content.codec) t
contents-local longest p q x y m n r t h k codec e f same place =
    let content = local longest p q x y m n r t h k codec e f same in
    (λ i. record_contents (widths_of x.content.codec) (record { start = place i; content = content i }))

-- ---- walking along a table, in a buffer that may be longer

values-ahead : (w : Widths) (p : List ℕ) (r : Placed) (more : List ℕ) (k : ℕ) (l : List Located) → length p < 2 ^ 16
    → r.start + length (record_bytes w r.content) ≤ length p → All Named l → All (λ e. Inside e (record_bytes w r.content)) l → k < length l
    → (value_of (get_or (joined (element_word r) l ++ more) k 0)).offset + (value_of (get_or (joined (element_word r) l ++ more) k 0)).size ≤ length p
unfolding value_result found_in
values-ahead w p r more k [] h i a b c = absurd (omega (arith, c))
values-ahead w p r more zero (e ∷ l) h i a b c =
    let v = value_result (found_in r e) in
    let same = value-again v a.0.0 a.0.1 (omega (arith, b.0.within, h, i)) (omega (arith, b.0.within, h, i)) in
    omega (arith, ap (λ (x : Value). x.offset) same, ap (λ (x : Value). x.size) same, b.0.within, i)
values-ahead w p r more (suc k) (e ∷ l) h i a b c = values-ahead w p r more k l h i a.1 b.1 (omega (arith, c))

rows-ahead : (longest : ℕ) (w : Widths) → Narrow w → (p t more : List ℕ) → length p < 2 ^ 16 → (at : ℕ) (rs : List Placed) → All (Kept longest w p) rs
    → drop at t ≡ joined (record_contents w) rs ++ more → RowsAhead p t at (length rs)
rows-ahead longest w k p t more h at [] a e = tt
rows-ahead longest w k p t more h at (r ∷ rs) a e =
    let fit : Fits w r = record { rules = (longest, a.0.rules); ends = omega (arith, h, a.0.stands.inside) } in
    let rest = joined (record_contents w) rs ++ more in
    let words = joined (element_word r) (elements w r.content) in
    let split : drop at t ≡ record_contents w r ++ rest = e ∙ append_assoc (record_contents w r) (joined (record_contents w) rs) more in
    let count : (record_of (drop at t)).elements ≡ length words = ap (λ (l : List ℕ). (record_of l).elements) (split ∙ parted w k r fit rest) ∙ count-read w k r fit rest in
    let long = ap length split ∙ length-append (record_contents w r) rest in
    let n = (record_of (drop at t)).elements in
    let steps : at + 4 + n ≡ at + (4 + n) = omega arith in
    let same : n ≡ (record_of (record_contents w r ++ rest)).elements = ap (λ (l : List ℕ). (record_of l).elements) split in
    let next : drop (at + 4 + n) t ≡ rest =
    ap (λ (m : ℕ). drop m t) steps
    ∙ sym (drop-drop (4 + n) at t)
    ∙ ap₂ (λ (m : ℕ) (l : List ℕ). drop (4 + m) l) same split
    ∙ next-read w k r fit rest in
    let own : drop (at + 4) t ≡ words ++ rest = sym (drop-drop 4 at t) ∙ ap (drop 4) (split ∙ parted w k r fit rest) ∙ behind w k r fit rest in (
      omega (arith, length-drop at t, long, contents-long w k r fit rest, count),
      λ i j. subst (λ (word : ℕ). (value_of word).offset + (value_of word).size ≤ length p) (ap (λ (l : List ℕ). get_or l i 0) (sym own) ∙ get_or-drop (at + 4) t i 0)
          (values-ahead w p r rest i (elements w r.content) h a.0.stands.inside (named w k r fit rest) (elements-inside w r.content)
          (omega (arith, j, count, length-words (λ (e : Located). value_word (value_result (found_in r e))) (elements w r.content)))),
      rows-ahead longest w k p t more h (at + 4 + n) rs a.1 next,
    )

module _ (longest : ℕ) (p : List ℕ) (x : Source) (h : Header) (short : length p < 2 ^ 16) (stored : Stored longest p x) (rules : HeaderRules h) (more : List ℕ) where
  abbrev records : List Placed
  records = place_records (widths_of x.content.codec) x.base x.content.records

  ahead : RowsAhead p (contents h x ++ more) 2 (length x.content.records)
  unfolding contents title_words
  ahead =
      let w = widths_of x.content.codec in
      subst (RowsAhead p (contents h x ++ more) 2) (placed-count w x.base x.content.records)
      (rows-ahead longest w (narrow x.content.codec) p (contents h x ++ more) more short 2 records (all-kept longest w p x.content.records x.base _ stored.rules.each stored.tiles.1) refl)

  title-ahead : title_result (contents h x ++ more) ≡ title_result (contents h x)
  unfolding contents title_words title_result
  title-ahead = refl

  -- as many as the first words say
  pub all-ahead : ((title_result (contents h x ++ more)).count ≡ length x.content.records) × RowsAhead p (contents h x ++ more) 2 (title_result (contents h x ++ more)).count
  unfolding data_result
  all-ahead =
      let count : (title_result (contents h x ++ more)).count ≡ length x.content.records = ap (λ (d : DataResult). d.count) (title-ahead ∙ title-is longest p x h short stored rules) in
      (count, subst (RowsAhead p (contents h x ++ more) 2) (sym count) ahead)

-- ---- the table of a packet and of a datagram

-- `t` is the table of the input `p`, which `source` finds accepted
record TableOf (p : List ℕ) (source : Answer Source) (x : Source) (h : Header) (t : List ℕ) : Type 0 where
  longest : ℕ
  short : length p < 2 ^ 16
  stored : Stored longest p x
  rules : HeaderRules h
  accepts : source ≡ Ok x
  is : contents h x ≡ t

module _ {p : List ℕ} {source : Answer Source} {x : Source} {h : Header} {t : List ℕ} (k : TableOf p source x h t) where
  table-lists : Lists source t
  table-lists = subst (Lists source) k.is (lists k.longest p x h k.short k.stored k.rules k.accepts)

  table-title : title_result t ≡ data_result x.content
  table-title = ap title_result (sym k.is) ∙ title-is k.longest p x h k.short k.stored k.rules

  table-header : title_header t ≡ h
  table-header = ap title_header (sym k.is) ∙ header_is k.longest p x h k.short k.stored k.rules

  table-ahead : (more : List ℕ) → ((title_result (t ++ more)).count ≡ length x.content.records) × RowsAhead p (t ++ more) 2 (title_result (t ++ more)).count
  table-ahead more =
      subst (λ (l : List ℕ). ((title_result (l ++ more)).count ≡ length x.content.records) × RowsAhead p (l ++ more) 2 (title_result (l ++ more)).count) k.is
      (all-ahead k.longest p x h k.short k.stored k.rules more)

no-header : HeaderRules no_header
no-header = omega arith

module _ (limits : Limits) (small : Most limits) (p t : List ℕ) (b : Bytes p) where
  packet-table : contents_of_packet limits p ≡ Ok t
      → (a : AvlData) × (read_packet limits p ≡ Ok a) × TableOf p (tcp_source limits p) (record { content = a; base = 10 }) no_header t
  unfolding contents_of_packet tcp_source
  packet-table e =
      let i = on_accepted-accepted (tcp_source limits p) _ e in
      let j = on_accepted-accepted (read_packet limits p) _ i.1 in
      let source = on_accepted-passed (read_packet limits p) _ j.1 in (
        j.0,
        j.1,
        record {
          longest = limits.longest;
          short = omega (arith, small.packets, packet-most limits p j.1 b);
          stored = tcp-stored limits p _ b source;
          rules = no-header;
          accepts = source;
          is = cc (j.2, i.2);
        },
      )

  datagram-table : contents_of_datagram limits p ≡ Ok t
      → (g : Datagram) × (read_datagram limits p ≡ Ok g) × TableOf p (udp_source limits p) (record { content = g.payload; base = 25 }) g.header t
  unfolding contents_of_datagram udp_source
  datagram-table e =
      let i = on_accepted-accepted (read_datagram limits p) _ e in
      let source = on_accepted-passed (read_datagram limits p) _ i.1 in (
        i.0,
        i.1,
        record {
          longest = limits.longest;
          short = omega (arith, small.datagrams, datagram-most limits p i.1 b);
          stored = udp-stored limits p _ b source;
          rules = ((datagram-exact limits p i.0 b).0 i.1).header;
          accepts = source;
          is = cc i.2;
        },
      )

  -- a TCP packet's table, its codec and count, and its acknowledgement
  pub packet-lists : contents_of_packet limits p ≡ Ok t
      → Lists (tcp_source limits p) t × (answer_packet limits p ≡ Ok (title_result t)) × (tcp_acknowledgement limits p ≡ Ok (be 4 (title_result t).count))
  unfolding answer_packet tcp_acknowledgement data_result acknowledged
  packet-lists e =
      let k = packet-table e in
      let title = sym (table-title k.2) in (
        table-lists k.2,
        on_accepted-passed (read_packet limits p) _ k.1 ∙ ap Ok title,
        check-passed _ 21 _ _ (le-leb 1 limits.largest (omega (arith, ((packet-exact limits p k.0 b).0 k.1).frame.most)))
            ∙ ap (λ r. Ok (be 4 (acknowledged r))) k.1
            ∙ ap (λ (d : DataResult). Ok (be 4 d.count)) title,
      )

  -- a datagram's table, its codec, count and header, and its acknowledgement
  pub datagram-lists : contents_of_datagram limits p ≡ Ok t
      → Lists (udp_source limits p) t
      × (answer_datagram limits p ≡ Ok (record { payload = title_result t; header = title_header t }))
      × (udp_acknowledgement limits p ≡ Ok (acknowledgement_bytes (title_header t) (title_result t).count))
  unfolding answer_datagram udp_acknowledgement data_result
  datagram-lists e =
      let k = datagram-table e in
      let title = sym (table-title k.2) in
      let header = sym (table-header k.2) in (
        table-lists k.2,
        on_accepted-passed (read_datagram limits p) _ k.1 ∙ (λ n. Ok (record { payload = title n; header = header n })),
        on_accepted-passed (read_datagram limits p) _ k.1 ∙ ap₂ (λ (h : Header) (d : DataResult). Ok (acknowledgement_bytes h d.count)) header title,
      )

  -- the records ahead in a buffer that begins with the table, as many as are acknowledged
  module _ (more : List ℕ) where
    abbrev Ahead : Answer AvlData → Type 0
    Ahead read = ((title_result (t ++ more)).count ≡ acknowledged read) × RowsAhead p (t ++ more) 2 (title_result (t ++ more)).count

    pub packet-ahead : contents_of_packet limits p ≡ Ok t → Ahead (read_packet limits p)
    unfolding acknowledged
    packet-ahead e =
        let k = packet-table e in
        let a = table-ahead k.2 more in
        (a.0 ∙ ap acknowledged (sym k.1), a.1)

    pub datagram-ahead : contents_of_datagram limits p ≡ Ok t → Ahead (payload_of (read_datagram limits p))
    unfolding acknowledged payload_of
    datagram-ahead e =
        let k = datagram-table e in
        let a = table-ahead k.2 more in
        (a.0 ∙ ap acknowledged (sym (on_accepted-passed (read_datagram limits p) _ k.1)), a.1)
