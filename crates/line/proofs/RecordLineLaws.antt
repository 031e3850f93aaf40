-- The line of a record keeps the rules of lines, so that a packet's line is read again; and what a line tells of a record.
use Rattle.std.specs.Prelude.{Err, Ok}
use Prim.Native.Nat.{ℕ, ◌+◌, ◌^◌, ◌≤◌, ◌<◌}
use native.Mathlib.Nat.{pow-le-pow_right, le_trans}
use native.Mathlib.Omega.{arith}
use mathlib.Core.Path.{◌≡◌, refl, sym, ap, ap₂, ◌∙◌, subst}
use mathlib.Core.Bool.{Bool, true, false}
use mathlib.Core.List.{List, [], ◌∷◌, ◌++◌, append-nil}
use lib.ListN.{length, drop}
use lib.Seq.{drop-length}
use lib.Dec.{eqb, ltb}
use borrow.Author.Tests.{ltb-true, ltb-false, eqb-false}
use Rattle.wire.specs.declared.Limits.{Limits}
use Rattle.wire.specs.Numbers.{Bytes, be, number_at, signed}
use Rattle.wire.specs.Sequences.{All}
use Rattle.wire.specs.Answers.{Answer, on_accepted}
use Rattle.wire.proofs.Widths.{byte_pos, all_append, number_lt, be-number}
use Rattle.wire.proofs.SignedLaws.{raw, raw-signed}
use Rattle.wire.proofs.Accepting.{pick-either, by_length}
use Rattle.avl.specs.declared.Widths.{Widths}
use Rattle.avl.specs.Codecs.{widths_of, kinds}
use Rattle.avl.specs.Records.{Element, AvlRecord, element_bytes, group_bytes, ValueSize, ElementRules, GroupsRules, RecordRules}
use Rattle.walk.proofs.KindLaws.{KindRange, kinds-range}
use Rattle.walk.proofs.WalkLaws.{narrow}
use Rattle.element.specs.Elements.{Located, locate_group, locate_groups, elements}
use Rattle.lookup.specs.Places.{Placed}
use Rattle.lookup.specs.Lookups.{Source, tcp_source, udp_source, placed_record, of_record}
use Rattle.lookup.specs.Carriers.{Stored}
use Rattle.lookup.proofs.PlaceLaws.{tcp-stored, udp-stored, kept}
use Rattle.line.specs.Lines.{Printed, number, tag, Line, FitsI32, PrintedRules, NoNumbers, TagsLast, LineRules, line_bytes}
use Rattle.line.specs.LineReader.{read_line}
use Rattle.line.specs.RecordLines.{printed_of, printed_all, record_line, line_of, line_of_packet, line_of_datagram, fields_of_record, fields_of_packet, fields_of_datagram}
use Rattle.line.specs.SameFields.{kinds_of, Shown, shown_of, shown_all, SameFields}
use Rattle.line.proofs.Cases.{by-test}
use Rattle.line.proofs.LineLaws.{line-inverse, lines-injective}

-- ---- what an element of a record keeps

record LocatedRules (e : Located) : Type 0 where
  id_fits : e.id < 2 ^ 16
  range : e.kind ≤ 9
  size : ValueSize e.kind (length e.value)
  bytes : Bytes e.value

module _ (w : Widths) (thin : w.id ≤ 2) where
  group-rules : (kind at : ℕ) (g : List Element) → kind ≤ 9 → All (ElementRules w kind) g → All LocatedRules (locate_group w kind at g)
  unfolding locate_group
  group-rules kind at [] h r = tt
  group-rules kind at (e ∷ g) h r = (
    record { id_fits = le_trans r.0.id_fits (pow-le-pow_right byte_pos thin); range = h; size = r.0.size; bytes = r.0.bytes },
    group-rules kind (at + length (element_bytes w kind e)) g h r.1,
  )

  groups-rules : (ks : List ℕ) (at : ℕ) (gs : List (List Element)) → All KindRange ks → GroupsRules w ks gs → All LocatedRules (locate_groups w ks at gs)
  unfolding locate_groups
  groups-rules [] at gs h r = tt
  groups-rules (k ∷ ks) at [] h r = tt
  groups-rules (k ∷ ks) at (g ∷ gs) h r =
      all_append LocatedRules (locate_group w k (at + w.count) g) (locate_groups w ks (at + length (group_bytes w k g)) gs)
      (group-rules k _ g h.0.1 r.0.each) (groups-rules ks (at + length (group_bytes w k g)) gs h.1 r.1)

  elements-rules : (longest : ℕ) (r : AvlRecord) → RecordRules longest w r → All LocatedRules (elements w r)
  unfolding elements
  elements-rules longest r h = groups-rules (kinds w) _ r.groups (kinds-range w) h.groups_keep

-- ---- the rules of its line

signed-fits : (n : ℕ) → n < 256 ^ 4 → FitsI32 (signed 4 n)
unfolding signed
signed-fits n h =
    by-test (ltb n (2 ^ 31))
    (λ e. simp e (ltb-true n (2 ^ 31) e))
    (λ e. let high : 2 ^ 31 ≤ n = ltb-false n (2 ^ 31) e in simp e (omega arith))

-- a fixed value's number
fixed-size : (e : Located) → LocatedRules e → eqb e.kind 9 ≡ false → (length e.value ≡ e.kind) × (length e.value ≤ 8)
fixed-size e h t =
    let same : length e.value ≡ e.kind = simp t at h.size in
    let other = eqb-false e.kind 9 t in
    (same, by_length (length e.value) 8 (λ few. few) (λ many. absurd (other (omega arith))))

printed-rules : (e : Located) → LocatedRules e → PrintedRules (printed_of e)
unfolding printed_of
printed-rules e h =
    by-test (eqb e.kind 9)
    (λ t. simp t (h.id_fits, h.bytes))
    (λ t. simp t (h.id_fits, le_trans (number_lt e.value 0 (length e.value) h.bytes) (pow-le-pow_right byte_pos (fixed-size e h t).1)))

all-printed : (l : List Located) → All LocatedRules l → All PrintedRules (printed_all l)
unfolding printed_all
all-printed [] h = tt
all-printed (e ∷ l) h = (printed-rules e h.0, all-printed l h.1)

printed-append : (l m : List Located) → printed_all (l ++ m) ≡ printed_all l ++ printed_all m
unfolding printed_all
printed-append [] m = refl
printed-append (e ∷ l) m = ap (λ (es : List Printed). printed_of e ∷ es) (printed-append l m)

tags-last : (es : List Printed) → NoNumbers es → TagsLast es
tags-last [] h = tt
tags-last (number id n ∷ es) h = absurd h
tags-last (tag id b ∷ es) h = h

module _ (w : Widths) where
  -- whatever the groups of these kinds have
  abbrev InOrder : List ℕ → Type 0
  InOrder ks = (at : ℕ) (gs : List (List Element)) → TagsLast (printed_all (locate_groups w ks at gs))

  numbers-first : (kind at : ℕ) (g : List Element) (es : List Printed) → eqb kind 9 ≡ false → TagsLast es → TagsLast (printed_all (locate_group w kind at g) ++ es)
  unfolding locate_group printed_all printed_of
  numbers-first kind at [] es t h = h
  numbers-first kind at (e ∷ g) es t h = simp t (numbers-first kind (at + length (element_bytes w kind e)) g es t h)

  no-numbers : (at : ℕ) (g : List Element) → NoNumbers (printed_all (locate_group w 9 at g))
  unfolding locate_group printed_all printed_of
  no-numbers at [] = tt
  no-numbers at (e ∷ g) = no-numbers (at + length (element_bytes w 9 e)) g

  order-more : (k : ℕ) (ks : List ℕ) → eqb k 9 ≡ false → InOrder ks → InOrder (k ∷ ks)
  unfolding locate_groups printed_all
  order-more k ks t h at [] = tt
  order-more k ks t h at (g ∷ gs) =
      subst TagsLast (sym (printed-append (locate_group w k (at + w.count) g) _)) (numbers-first k _ g _ t (h _ gs))

  order-last : InOrder (9 ∷ [])
  unfolding locate_groups printed_all
  order-last at [] = tt
  order-last at (g ∷ gs) =
      let l = locate_group w 9 (at + w.count) g in
      subst (λ (l : List Located). TagsLast (printed_all l)) (sym (append-nil l)) (tags-last (printed_all l) (no-numbers (at + w.count) g))

  order-none : InOrder []
  unfolding locate_groups printed_all
  order-none at gs = tt

  order-kinds : InOrder (kinds w)
  unfolding kinds
  order-kinds =
      order-more 1 _ refl (order-more 2 _ refl (order-more 4 _ refl (order-more 8 _ refl
      (pick-either InOrder w.variable (9 ∷ []) [] order-last order-none))))

pub record-rules : (longest : ℕ) (w : Widths) (r : AvlRecord) → w.id ≤ 2 → RecordRules longest w r → LineRules (record_line w r)
unfolding record_line elements
record-rules longest w r thin h =
    record {
      timestamp_fits = h.fixed_keep.timestamp_fits;
      longitude_fits = signed-fits r.fixed.longitude h.fixed_keep.longitude_fits;
      latitude_fits = signed-fits r.fixed.latitude h.fixed_keep.latitude_fits;
      speed_fits = h.fixed_keep.speed_fits;
      each = all-printed (elements w r) (elements-rules w thin longest r h);
      order = order-kinds w _ r.groups;
    }

-- ---- a packet's line read again

module _ (longest : ℕ) (p : List ℕ) (n : ℕ) where
  stored-again : (source : Answer Source) → ((x : Source) → source ≡ Ok x → Stored longest p x)
      → on_accepted (of_record line_of source n) read_line ≡ of_record fields_of_record source n
  unfolding on_accepted
  stored-again (Err y) h = refl
  stored-again (Ok x) h = one (placed_record x n) refl
    where
      one : (a : Answer Placed) → placed_record x n ≡ a → on_accepted (on_accepted a (line_of x.content.codec)) read_line ≡ on_accepted a (fields_of_record x.content.codec)
      one (Err y) e = refl
      one (Ok r) e =
          line-inverse.undo _ (record-rules longest (widths_of x.content.codec) r.content (narrow x.content.codec).id (kept longest p x n r (h x refl) e).rules)

module _ (limits : Limits) (p : List ℕ) (n : ℕ) (b : Bytes p) where
  pub line-again : on_accepted (line_of_packet limits p n) read_line ≡ fields_of_packet limits p n
  unfolding line_of_packet fields_of_packet
  line-again = stored-again limits.longest p n (tcp_source limits p) (λ x e. tcp-stored limits p x b e)

  pub datagram-line-again : on_accepted (line_of_datagram limits p n) read_line ≡ fields_of_datagram limits p n
  unfolding line_of_datagram fields_of_datagram
  datagram-line-again = stored-again limits.longest p n (udp_source limits p) (λ x e. udp-stored limits p x b e)

-- ---- what equal lines tell of two records whose elements have the same kinds

-- bytes are their number in as many bytes
number-again : (s : List ℕ) → Bytes s → s ≡ be (length s) (number_at s 0 (length s))
number-again s h =
    let whole : 0 + length s ≡ length s = omega arith in
    be-number (length s) s 0 h (omega arith)
    ∙ ap (λ (l : List ℕ). be (length s) (number_at s 0 (length s)) ++ l) (ap (λ (n : ℕ). drop n s) whole ∙ drop-length s)
    ∙ append-nil (be (length s) (number_at s 0 (length s)))

same-shown : (e f : Located) → LocatedRules e → LocatedRules f → e.kind ≡ f.kind → printed_of e ≡ printed_of f → shown_of e ≡ shown_of f
unfolding printed_of shown_of
same-shown e f h k kind same = by-test (eqb e.kind 9) variable fixed
  where
    both : {b : Bool} → eqb e.kind 9 ≡ b → eqb f.kind 9 ≡ b
    both t = ap (λ (n : ℕ). eqb n 9) (sym kind) ∙ t

    shown : e.id ≡ f.id → e.value ≡ f.value → shown_of e ≡ shown_of f
    shown x y = λ i. record { kind = kind i; id = x i; value = y i }

    variable : eqb e.kind 9 ≡ true → shown_of e ≡ shown_of f
    variable t =
        let tags : tag e.id e.value ≡ tag f.id f.value = simp (t, both t) at same in
        shown (cc) (cc)

    fixed : eqb e.kind 9 ≡ false → shown_of e ≡ shown_of f
    fixed t =
        let m = number_at e.value 0 (length e.value) in
        let n = number_at f.value 0 (length f.value) in
        let numbers : number e.id m ≡ number f.id n = simp (t, both t) at same in
        let is : m ≡ n = cc in
        let size : length e.value ≡ length f.value = (fixed-size e h t).0 ∙ kind ∙ sym (fixed-size f k (both t)).0 in
        shown (cc) (number-again e.value h.bytes ∙ ap₂ be size is ∙ sym (number-again f.value k.bytes))

all_shown : (l m : List Located) → All LocatedRules l → All LocatedRules m → kinds_of l ≡ kinds_of m → printed_all l ≡ printed_all m → shown_all l ≡ shown_all m
unfolding kinds_of printed_all shown_all
all_shown [] [] h k kinds same = refl
all_shown [] (f ∷ m) h k kinds same = absurd (let z : ◌≡◌ {A = ℕ} 0 1 = cc in omega arith)
all_shown (e ∷ l) [] h k kinds same = absurd (let z : ◌≡◌ {A = ℕ} 0 1 = cc in omega arith)
all_shown (e ∷ l) (f ∷ m) h k kinds same =
    ap₂ (λ (x : Shown) (y : List Shown). x ∷ y) (same-shown e f h.0 k.0 (cc) (cc)) (all_shown l m h.1 k.1 (cc) (cc))

signed_same : (m n : ℕ) → m < 256 ^ 4 → n < 256 ^ 4 → signed 4 m ≡ signed 4 n → m ≡ n
signed_same m n h k e = sym (raw-signed 4 m h) ∙ ap (raw 4) e ∙ raw-signed 4 n k

pub same-fields : (longest most : ℕ) (w v : Widths) (r q : AvlRecord) → w.id ≤ 2 → v.id ≤ 2 → RecordRules longest w r → RecordRules most v q
    → kinds_of (elements w r) ≡ kinds_of (elements v q) → line_bytes (record_line w r) ≡ line_bytes (record_line v q) → SameFields w v r q
unfolding record_line
same-fields longest most w v r q thin slim h k kinds same =
    let line = lines-injective (record_line w r) (record_line v q) (record-rules longest w r thin h) (record-rules most v q slim k) same in
    record {
      timestamp = ap (λ (l : Line). l.timestamp) line;
      longitude = signed_same _ _ h.fixed_keep.longitude_fits k.fixed_keep.longitude_fits (ap (λ (l : Line). l.longitude) line);
      latitude = signed_same _ _ h.fixed_keep.latitude_fits k.fixed_keep.latitude_fits (ap (λ (l : Line). l.latitude) line);
      speed = ap (λ (l : Line). l.speed) line;
      shown = all_shown (elements w r) (elements v q) (elements-rules w thin longest r h) (elements-rules v slim most q k) kinds (ap (λ (l : Line). l.elements) line);
    }
