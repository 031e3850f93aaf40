-- How the walk's functions go from one definition to the next: what each step reads, and what an answer tells of it.
use Rattle.std.specs.Prelude.{Err, Ok}
use Prim.Native.Nat.{ℕ, zero, suc, ◌+◌, ◌-◌, ◌*◌, ◌%◌, ◌^◌, ◌≤◌, ◌<◌}
use native.Mathlib.Nat.{mul-le-mul, suc-mul, pow-le-pow_right, zero-add, add-zero, add_assoc, add-mod_right, mod-eq_of_lt}
use native.Mathlib.Numerals.{add-one}
use native.Mathlib.Omega.{arith}
use mathlib.Core.Path.{◌≡◌, refl, sym, ap, ap₂, ◌∙◌}
use mathlib.Core.Bool.{Bool, true, false}
use mathlib.Core.List.{List, [], ◌∷◌}
use lib.ListN.{length, drop, get_or, drop_of_length-le, length-drop}
use lib.Seq.{length-take-le}
use lib.Dec.{eqb, leb}
use borrow.Author.Tests.{eq-eqb, ne_eqb, le-leb, lt-leb, leb-true, leb-false}
use Rattle.wire.specs.declared.Refusal.{Refusal}
use Rattle.wire.specs.Numbers.{Bytes, number_at, pick}
use Rattle.wire.specs.Reading.{Read, got, bad, walked, Reader, and_then, ◌>>=◌, ◌>>◌, pure, require, number, bytes, up_to, repeat}
use Rattle.wire.specs.Envelope.{codec_of, first_count, last_count, inner}
use Rattle.wire.specs.Answers.{Answer, refusal_at, moved_by, from, told, on_accepted}
use Rattle.wire.proofs.Widths.{number_lt, byte_pos}
use Rattle.wire.proofs.Enclosed.{bytes-inner}
use Rattle.wire.proofs.Accepting.{by_length, pick-either, pick_true, pick-false, check-passed, check-failed}
use Rattle.wire.proofs.Exactness.{Exact, then-got, here-got, require-got, repeat-sound}
use Rattle.wire.proofs.Walking.{short, then-bad, require-bad, bytes-got, bytes-bad, number-there, number-missing, up_to-there, up_to-missing, walked_on, walked-stopped, walked-bad}
use Rattle.avl.specs.declared.Widths.{Widths}
use Rattle.walk.specs.declared.Span.{Span}
use Rattle.avl.specs.Codecs.{codec8, codec8_e, codec16, widths_of, is_data_codec, kinds, all_kinds}
use Rattle.avl.specs.Narrow.{Narrow}
use Rattle.avl.specs.Records.{Element, Fixed, AvlRecord, element_count, record_bytes}
use Rattle.avl.specs.RecordReader.{value_size, element, group, groups, fixed_fields, avl_record, tagged, in_record, avl_records, at_end, all_records}
use Rattle.avl.specs.DataField.{AvlData, read_data}
use Rattle.walk.specs.Walks.{counted, elements_of, span_of, spanned, data_walk}
use Rattle.walk.proofs.KindLaws.{kind-known, next-kind}
use Rattle.avl.proofs.OffendingLaws.{all_local}
use Rattle.avl.proofs.RecordLaws.{element-exact, group-exact, groups-exact, fixed-exact, record-exact, all_sound}

-- what was read lies inside
pub walked-inside : {A : Type 0} {m : Reader A} {write : A → List ℕ} {Rules : A → Type 0} → Exact m write Rules → (s : List ℕ) (at : ℕ) {to : ℕ} → Bytes s → at ≤ length s
    → walked (m s at) ≡ Ok to → to ≤ length s
walked-inside x s at b h e = ((x.sound s at b h).if-got _ _ (walked_on _ e).1).0.inside

-- ---- widths

pub narrow : (codec : ℕ) → Narrow (widths_of codec)
unfolding widths_of
narrow codec =
    pick-either Narrow (eqb codec 0x08) codec8 _ narrow8 (pick-either Narrow (eqb codec 0x8E) codec8_e codec16 narrow8_e narrow16)
  where
    narrow8 : Narrow codec8
    narrow8 = omega arith

    narrow8_e : Narrow codec8_e
    narrow8_e = omega arith

    narrow16 : Narrow codec16
    narrow16 = omega arith

-- two bytes hold a count
count-bound : {w : Widths} → Narrow w → 256 ^ w.count ≤ 65536
count-bound n = pow-le-pow_right byte_pos n.count

-- ---- the fixed fields

-- the fields before the last
pub fixed-start : (w : Widths) (s : List ℕ) (at : ℕ) → at + 8 + 1 + 4 + 4 + 2 + 2 + 1 + 2 + w.event ≤ length s → number_at s (at + 8) 1 ≤ 2
    → (f : ℕ → Fixed) × (fixed_fields w s at ≡ (up_to w.generation 7 11 >>= λ n. pure (f n)) s (at + 8 + 1 + 4 + 4 + 2 + 2 + 1 + 2 + w.event))
unfolding fixed_fields
fixed-start w s at h k = (
  _,
  number-there _ s at 8 (omega arith)
      ∙ up_to-there _ s (at + 8) 1 2 10 (omega arith) k
      ∙ number-there _ s (at + 8 + 1) 4 (omega arith)
      ∙ number-there _ s (at + 8 + 1 + 4) 4 (omega arith)
      ∙ number-there _ s (at + 8 + 1 + 4 + 4) 2 (omega arith)
      ∙ number-there _ s (at + 8 + 1 + 4 + 4 + 2) 2 (omega arith)
      ∙ number-there _ s (at + 8 + 1 + 4 + 4 + 2 + 2) 1 (omega arith)
      ∙ number-there _ s (at + 8 + 1 + 4 + 4 + 2 + 2 + 1) 2 (omega arith)
      ∙ number-there _ s (at + 8 + 1 + 4 + 4 + 2 + 2 + 1 + 2) w.event h,
)

-- the widths of the fields before the last
abbrev pub field_widths : Widths → List ℕ
field_widths w = 8 ∷ 1 ∷ 4 ∷ 4 ∷ 2 ∷ 2 ∷ 1 ∷ 2 ∷ w.event ∷ []

module _ (s : List ℕ) where
  -- of fields of these widths, where the first that is missing begins; else where they end
  unfoldable pub missing_from : List ℕ → ℕ → ℕ
  missing_from [] at = at
  missing_from (n ∷ ns) at = pick (leb (at + n) (length s)) (missing_from ns (at + n)) at

  pub missing-none : (at : ℕ) → missing_from [] at ≡ at
  unfolding missing_from
  missing-none at = refl

  pub missing-there : (n : ℕ) (ns : List ℕ) (at : ℕ) → at + n ≤ length s → missing_from (n ∷ ns) at ≡ missing_from ns (at + n)
  unfolding missing_from
  missing-there n ns at h = pick_true (leb (at + n) (length s)) _ _ (le-leb _ _ h)

  pub missing-here : (n : ℕ) (ns : List ℕ) (at : ℕ) → length s < at + n → missing_from (n ∷ ns) at ≡ at
  unfolding missing_from
  missing-here n ns at h = pick-false (leb (at + n) (length s)) _ _ (lt-leb _ _ h)

  module _ {A : Type 0} (ns : List ℕ) (f : ℕ → Reader A) (at : ℕ) where
    number-short : (n : ℕ) → (at + n ≤ length s → f (number_at s at n) s (at + n) ≡ bad (short (missing_from ns (at + n))))
        → (number n >>= f) s at ≡ bad (short (missing_from (n ∷ ns) at))
    number-short n more =
        by_length (at + n) (length s)
        (λ h. number-there f s at n h ∙ more h ∙ ap (λ (k : ℕ). bad (short k)) (sym (missing-there n ns at h)))
        (λ h. number-missing f s at n h ∙ ap (λ (k : ℕ). bad (short k)) (sym (missing-here n ns at h)))

    up_to-short : (n most refusal : ℕ) → (at + n ≤ length s → number_at s at n ≤ most)
        → (at + n ≤ length s → f (number_at s at n) s (at + n) ≡ bad (short (missing_from ns (at + n))))
        → (up_to n most refusal >>= f) s at ≡ bad (short (missing_from (n ∷ ns) at))
    up_to-short n most refusal few more =
        by_length (at + n) (length s)
        (λ h. up_to-there f s at n most refusal h (few h) ∙ more h ∙ ap (λ (k : ℕ). bad (short k)) (sym (missing-there n ns at h)))
        (λ h. up_to-missing f s at n most refusal h ∙ ap (λ (k : ℕ). bad (short k)) (sym (missing-here n ns at h)))

-- some field is missing, and the priority keeps its rule if it is there
pub fixed-short : (w : Widths) (s : List ℕ) (at : ℕ) → length s < at + 24 + w.event + w.generation → (at + 8 + 1 ≤ length s → number_at s (at + 8) 1 ≤ 2)
    → Err (short (missing_from s (field_widths w) at)) ≡ walked (fixed_fields w s at)
unfolding fixed_fields
fixed-short w s at h few =
    sym (walked-bad _
    (number-short s _ _ at 8 (λ a. up_to-short s _ _ (at + 8) 1 2 10 few (λ b. number-short s _ _ _ 4 (λ c. number-short s _ _ _ 4 (λ d.
    number-short s _ _ _ 2 (λ e. number-short s _ _ _ 2 (λ f. number-short s _ _ _ 1 (λ g. number-short s _ _ _ 2 (λ i.
    number-short s [] _ _ w.event (λ j. up_to-missing _ s _ w.generation 7 11 (omega arith) ∙ ap (λ (k : ℕ). bad (short k)) (sym (missing-none s _)))))))))))))

-- ---- an element

module _ (s : List ℕ) (at : ℕ) (kind : ℕ) where
  pub variable-size : kind ≡ 9 → value_size kind s at ≡ number 2 s at
  unfolding value_size
  variable-size e = ap (λ (m : Reader ℕ). m s at) (pick_true (eqb kind 9) (number 2) (pure kind) (eq-eqb kind 9 e))

  pub fixed-size : (kind ≡ 9 → ⊥) → value_size kind s at ≡ got kind at
  unfolding value_size pure
  fixed-size ne = ap (λ (m : Reader ℕ). m s at) (pick-false (eqb kind 9) (number 2) (pure kind) (ne_eqb kind 9 ne))

-- an element whose value's length is known
module _ (w : Widths) (kind : ℕ) (s : List ℕ) (at : ℕ) {size mid : ℕ} (h : at + w.id ≤ length s) (sized : value_size kind s (at + w.id) ≡ got size mid) where
  pub element-there : mid + size ≤ length s → (e : Element) × (element w kind s at ≡ got e (mid + size))
  unfolding element pure
  element-there k = (
    _,
    number-there _ s at w.id h ∙ then-got (value_size kind) _ s (at + w.id) sized ∙ then-got (bytes size) _ s mid (bytes-got size s mid k),
  )

  pub element-cut : length s < mid + size → element w kind s at ≡ bad (short mid)
  unfolding element
  element-cut k = number-there _ s at w.id h ∙ then-got (value_size kind) _ s (at + w.id) sized ∙ then-bad (bytes size) _ s mid (bytes-bad size s mid k)

-- ---- lists

-- with one more at the front
unfoldable pub consed : {A : Type 0} → A → Read (List A) → Read (List A)
consed a (got l next) = got (a ∷ l) next
consed a (bad x) = bad x

and_then-consed : {A : Type 0} (a : A) (r : Read (List A)) → and_then r (λ l next. got (a ∷ l) next) ≡ consed a r
unfolding and_then consed
and_then-consed a (got l next) = refl
and_then-consed a (bad x) = refl

walked-consed : {A : Type 0} (a : A) (r : Read (List A)) → walked (consed a r) ≡ walked r
unfolding walked consed
walked-consed a (got l next) = refl
walked-consed a (bad x) = refl

list_on : {A : Type 0} (m : Reader A) (rest : Reader (List A)) (s : List ℕ) (at : ℕ) {a : A} {mid : ℕ} → m s at ≡ got a mid
    → (m >>= λ a. rest >>= λ l. pure (a ∷ l)) s at ≡ consed a (rest s mid)
unfolding ◌>>=◌ pure
list_on m rest s at {a} {mid} e = then-got m (λ a. rest >>= λ l. pure (a ∷ l)) s at e ∙ and_then-consed a (rest s mid)

module _ {A : Type 0} (m : Reader A) (s : List ℕ) where
  pub repeat-none : (n at : ℕ) → n ≤ 0 → walked (repeat n m s at) ≡ Ok at
  unfolding repeat pure walked
  repeat-none zero at h = refl
  repeat-none (suc n) at h = absurd (omega arith)

  pub repeat-on : (n at : ℕ) {a : A} {mid : ℕ} → 0 < n → m s at ≡ got a mid → walked (repeat (n - 1) m s mid) ≡ walked (repeat n m s at)
  unfolding repeat
  repeat-on zero at h e = absurd (omega arith)
  repeat-on (suc n) at {a} {mid} h e =
      let less : suc n - 1 ≡ n = omega arith in
      ap (λ (k : ℕ). walked (repeat k m s mid)) less ∙ sym (ap walked (list_on m (repeat n m) s at e) ∙ walked-consed a (repeat n m s mid))

  pub repeat-stops : (n at : ℕ) {x : Refusal} → 0 < n → m s at ≡ bad x → walked (repeat n m s at) ≡ Err x
  unfolding repeat
  repeat-stops zero at h e = absurd (omega arith)
  repeat-stops (suc n) at h e = walked-bad _ (then-bad m _ s at e)

-- values of a fixed width are stepped over at once
pub fixed-elements : (w : Widths) (kind : ℕ) (s : List ℕ) (n at : ℕ) → (kind ≡ 9 → ⊥) → at + n * (w.id + kind) ≤ length s
    → walked (repeat n (element w kind) s at) ≡ Ok (at + n * (w.id + kind))
fixed-elements w kind s zero at ne h = repeat-none (element w kind) s zero at (omega arith) ∙ ap Ok (omega arith)
fixed-elements w kind s (suc n) at ne h =
    let first = element-there w kind s at (omega arith) (fixed-size s (at + w.id) kind ne) (omega arith) in
    let less : suc n - 1 ≡ n = omega arith in
    sym (repeat-on (element w kind) s (suc n) at (omega arith) first.1)
    ∙ ap (λ (k : ℕ). walked (repeat k (element w kind) s (at + w.id + kind))) less
    ∙ fixed-elements w kind s n (at + w.id + kind) ne (omega arith)
    ∙ ap Ok (omega arith)

-- where they are not all there, one is cut
module _ (w : Widths) (kind : ℕ) (s : List ℕ) (some : 1 ≤ kind) (ne : kind ≡ 9 → ⊥) where
  -- its ID or its value is the field that is missing
  element-short : (at : ℕ) → at ≤ length s → length s < at + (w.id + kind) → element w kind s at ≡ bad (short (pick (leb w.id (length s - at)) (at + w.id) at))
  unfolding element
  element-short at inside h = go (leb w.id (length s - at)) refl
    where
      go : (b : Bool) → leb w.id (length s - at) ≡ b → element w kind s at ≡ bad (short (pick b (at + w.id) at))
      go true e = element-cut w kind s at (omega (arith, leb-true w.id (length s - at) e)) (fixed-size s (at + w.id) kind ne) (omega arith)
      go false e = number-missing _ s at w.id (omega (arith, leb-false w.id (length s - at) e))

  -- the missing field, where `rest` bytes of the element are there
  abbrev pub cut_place : ℕ → ℕ
  cut_place rest = pick (leb w.id rest) (length s - rest + w.id) (length s - rest)

  pub fixed-cut : (n at : ℕ) → at ≤ length s → length s < at + n * (w.id + kind)
      → walked (repeat n (element w kind) s at) ≡ Err (short (cut_place ((length s - at) % (w.id + kind))))
  fixed-cut zero at inside h = absurd (omega arith)
  fixed-cut (suc n) at inside h =
      let size = w.id + kind in
      by_length (at + size) (length s)
      (λ k.
      let first = element-there w kind s at (omega arith) (fixed-size s (at + w.id) kind ne) (omega arith) in
      let less : suc n - 1 ≡ n = omega arith in
      let further : length s - (at + w.id + kind) + size ≡ length s - at = omega arith in
      let same : (length s - (at + w.id + kind)) % size ≡ (length s - at) % size = sym (add-mod_right (length s - (at + w.id + kind)) size) ∙ ap (λ (m : ℕ). m % size) further in
      sym (repeat-on (element w kind) s (suc n) at (omega arith) first.1)
      ∙ ap (λ (m : ℕ). walked (repeat m (element w kind) s (at + w.id + kind))) less
      ∙ fixed-cut n (at + w.id + kind) (omega arith) (omega (arith, suc-mul n size))
      ∙ ap (λ (rest : ℕ). Err (short (cut_place rest))) same)
      (λ k.
      let whole : (length s - at) % size ≡ length s - at = mod-eq_of_lt (omega arith) in
      let start : length s - (length s - at) ≡ at = omega arith in
      repeat-stops (element w kind) s (suc n) at (omega arith) (element-short at inside k)
      ∙ ap (λ (a : ℕ). Err (short (pick (leb w.id (length s - at)) (a + w.id) a))) (sym start)
      ∙ ap (λ (rest : ℕ). Err (short (cut_place rest))) (sym whole))

-- ---- a group

pub group-missing : (w : Widths) (kind : ℕ) (s : List ℕ) (at : ℕ) → length s < at + w.count → counted length (group w kind s at) ≡ Err (short at)
unfolding group counted
group-missing w kind s at h = ap (counted length) (number-missing _ s at w.count h)

-- of a group whose count is known
module _ (w : Widths) (kind : ℕ) (s : List ℕ) (at : ℕ) {n : ℕ} (is : n ≡ number_at s at w.count) where
  pub group-extent : Narrow w → kind ≤ 9 → Bytes s → n * (w.id + kind) ≤ 65535 * 11
  group-extent narrow k b =
      let few : n ≤ 65535 = omega (arith, number_lt s at w.count b, count-bound narrow) in
      let wide : w.id + kind ≤ 11 = omega arith in
      mul-le-mul few wide

  group-repeats : at + w.count ≤ length s → group w kind s at ≡ repeat n (element w kind) s (at + w.count)
  unfolding group
  group-repeats h = number-there _ s at w.count h ∙ ap (λ (k : ℕ). repeat k (element w kind) s (at + w.count)) (sym is)

  pub group-stops : {x : Refusal} → at + w.count ≤ length s → walked (repeat n (element w kind) s (at + w.count)) ≡ Err x
      → counted length (group w kind s at) ≡ Err x
  unfolding counted
  group-stops h e = ap (counted length) (group-repeats h ∙ walked-stopped _ e)

  pub group_of : {next : ℕ} → Bytes s → at + w.count ≤ length s → walked (repeat n (element w kind) s (at + w.count)) ≡ Ok next
      → counted length (group w kind s at) ≡ Ok (n, next)
  unfolding counted
  group_of {next} b h e =
      let l = walked_on _ e in
      let size = ((repeat-sound (element-exact w kind) n s (at + w.count) b h).if-got _ _ l.1).1.0 in
      ap (counted length) (group-repeats h ∙ l.1) ∙ ap (λ (k : ℕ). Ok (k, next)) size

-- what is known of a group that was read
pub record GroupRead (w : Widths) (kind : ℕ) (s : List ℕ) (at n next : ℕ) : Type 0 where
  pub elements : List Element
  pub read : group w kind s at ≡ got elements next
  pub size : length elements ≡ n
  pub few : n ≤ 65535
  pub inside : next ≤ length s

module _ {A : Type 0} (size : A → ℕ) where
  counted_of : (r : Read A) {n next : ℕ} → counted size r ≡ Ok (n, next) → (a : A) × (r ≡ got a next) × (size a ≡ n)
  unfolding counted
  counted_of (got a m) {n} {next} e =
      let pair : ◌≡◌ {A = ℕ × ℕ} (size a, m) (n, next) = cc in
      (a, ap (λ (p : ℕ × ℕ). got a p.1) pair, ap (λ (p : ℕ × ℕ). p.0) pair)
  counted_of (bad x) e = absurd (let z : ◌≡◌ {A = ℕ} 0 1 = cc in omega arith)

  counted-stopped : (r : Read A) {x : Refusal} → counted size r ≡ Err x → r ≡ bad x
  unfolding counted
  counted-stopped (got a m) e = absurd (let z : ◌≡◌ {A = ℕ} 0 1 = cc in omega arith)
  counted-stopped (bad y) e = ap bad (cc)

  counted-bad : (r : Read A) {x : Refusal} → r ≡ bad x → counted size r ≡ Err x
  unfolding counted
  counted-bad r e = ap (counted size) e

  -- what was counted lies inside
  pub counted-inside : {m : Reader A} {write : A → List ℕ} {Rules : A → Type 0} → Exact m write Rules → (s : List ℕ) (at : ℕ) {n to : ℕ} → Bytes s → at ≤ length s
      → counted size (m s at) ≡ Ok (n, to) → to ≤ length s
  counted-inside x s at b h e = ((x.sound s at b h).if-got _ _ (counted_of _ e).1).0.inside

pub group-read : (w : Widths) (kind : ℕ) (s : List ℕ) (at : ℕ) {n next : ℕ} → Narrow w → Bytes s → at ≤ length s → counted length (group w kind s at) ≡ Ok (n, next)
    → GroupRead w kind s at n next
group-read w kind s at narrow b h e =
    let g = counted_of length _ e in
    let sound = ((group-exact w kind).sound s at b h).if-got _ _ g.1 in
    record {
      elements = g.0;
      read = g.1;
      size = g.2;
      few = omega (arith, sound.1.count_fits, g.2, count-bound narrow);
      inside = sound.0.inside;
    }

-- ---- groups

module _ (w : Widths) (k : ℕ) (ks : List ℕ) (s : List ℕ) (at : ℕ) where
  pub groups-on : {n mid : ℕ} (g : GroupRead w k s at n mid) → groups w (k ∷ ks) s at ≡ consed g.elements (groups w ks s mid)
  unfolding groups
  groups-on g = list_on (group w k) (groups w ks) s at g.read

  pub groups-stop : {x : Refusal} → counted length (group w k s at) ≡ Err x → groups w (k ∷ ks) s at ≡ bad x
  unfolding groups
  groups-stop e = then-bad (group w k) _ s at (counted-stopped length _ e)

-- ---- the elements, group by group

-- of all groups from number `k` on, where those before them have `most` elements
module _ (w : Widths) (s : List ℕ) (k most at : ℕ) where
  unfoldable pub count_from : Answer (ℕ × ℕ)
  count_from = counted (λ gs. most + element_count gs) (groups w (drop k (kinds w)) s at)

  module _ {kind : ℕ} (h : k < length (kinds w)) (e : kind ≡ get_or (kinds w) k 0) where
    count-stop : {x : Refusal} → counted length (group w kind s at) ≡ Err x → count_from ≡ Err x
    unfolding count_from
    count-stop z = counted-bad _ _ (ap (λ (ks : List ℕ). groups w ks s at) (next-kind w k h e) ∙ groups-stop w kind _ s at z)

  pub count-done : length (kinds w) ≤ k → count_from ≡ Ok (most, at)
  unfolding count_from counted groups pure element_count
  count-done h =
      ap (λ (ks : List ℕ). counted (λ gs. most + element_count gs) (groups w ks s at)) (drop_of_length-le (kinds w) h)
      ∙ ap (λ (n : ℕ). Ok (n, at)) (add-zero most)

count-consed : (most : ℕ) (g : List Element) (r : Read (List (List Element)))
    → counted (λ gs. most + element_count gs) (consed g r) ≡ counted (λ gs. most + length g + element_count gs) r
unfolding counted consed element_count
count-consed most g (bad x) = refl
count-consed most g (got gs next) = ap (λ (n : ℕ). Ok (n, next)) (sym (add_assoc most (length g) (element_count gs)))

count-on : (w : Widths) (s : List ℕ) (k most at : ℕ) {kind n mid : ℕ} → k < length (kinds w) → kind ≡ get_or (kinds w) k 0 → GroupRead w kind s at n mid
    → count_from w s (k + 1) (most + n) mid ≡ count_from w s k most at
unfolding count_from
count-on w s k most at {mid = mid} h e g =
    sym (ap (λ (ks : List ℕ). counted (λ gs. most + element_count gs) (groups w ks s at)) (next-kind w k h e)
    ∙ ap (counted (λ gs. most + element_count gs)) (groups-on w _ _ s at g)
    ∙ count-consed most g.elements _
    ∙ ap (λ (m : ℕ). counted (λ gs. most + m + element_count gs) (groups w (drop (k + 1) (kinds w)) s mid)) g.size)

-- what the groups before number `k` leave to do
pub record Counting (w : Widths) (s : List ℕ) (at most next k : ℕ) : Type 0 where
  pub few : most ≤ k * 65535
  pub inside : next ≤ length s
  pub rest : count_from w s k most next ≡ counted element_count (groups w (kinds w) s at)

pub counting-start : (w : Widths) (s : List ℕ) (at : ℕ) → at ≤ length s → Counting w s at 0 at 0
unfolding count_from
counting-start w s at h = record { few = omega arith; inside = h; rest = λ i. counted (λ gs. zero-add (element_count gs) i) (groups w (kinds w) s at) }

module _ (w : Widths) {s : List ℕ} {at most next k : ℕ} (t : Counting w s at most next k) {kind : ℕ} (h : k < length (kinds w)) (e : kind ≡ get_or all_kinds k 0) where
  known : kind ≡ get_or (kinds w) k 0
  known = e ∙ kind-known w k h

  pub counting-stops : {x : Refusal} → counted length (group w kind s next) ≡ Err x → Err x ≡ counted element_count (groups w (kinds w) s at)
  counting-stops z = sym (count-stop w s k most next h known z) ∙ t.rest

  pub counting-on : {n mid : ℕ} → GroupRead w kind s next n mid → Counting w s at (most + n) mid (k + 1)
  counting-on {n} {mid} g =
      record { few = omega (arith, t.few, g.few); inside = g.inside; rest = count-on w s k most next h known g ∙ t.rest }

-- ---- a record

module _ (longest : ℕ) (w : Widths) (s : List ℕ) (at : ℕ) where
  pub record-unfixed : {x : Refusal} → walked (fixed_fields w s at) ≡ Err x → counted elements_of (avl_record longest w s at) ≡ Err x
  unfolding avl_record
  record-unfixed e = counted-bad elements_of _ (here-got _ s at ∙ then-bad (fixed_fields w) _ s at (walked-stopped _ e))

  module _ {a₁ : ℕ} (fixed : walked (fixed_fields w s at) ≡ Ok a₁) where
    pub record-missing : length s < a₁ + w.count → counted elements_of (avl_record longest w s at) ≡ Err (short a₁)
    unfolding avl_record
    record-missing h =
        counted-bad elements_of _ (here-got _ s at ∙ then-got (fixed_fields w) _ s at (walked_on _ fixed).1 ∙ number-missing _ s a₁ w.count h)

    pub record-stopped : {x : Refusal} → a₁ + w.count ≤ length s → counted element_count (groups w (kinds w) s (a₁ + w.count)) ≡ Err x
        → counted elements_of (avl_record longest w s at) ≡ Err x
    unfolding avl_record
    record-stopped h e =
        counted-bad elements_of _
        (here-got _ s at
        ∙ then-got (fixed_fields w) _ s at (walked_on _ fixed).1
        ∙ number-there _ s a₁ w.count h
        ∙ then-bad (groups w (kinds w)) _ s (a₁ + w.count) (counted-stopped element_count _ e))

    module _ {sum n end : ℕ} (h : a₁ + w.count ≤ length s) (is : sum ≡ number_at s a₁ w.count)
        (elements : counted element_count (groups w (kinds w) s (a₁ + w.count)) ≡ Ok (n, end)) where
      -- the two rules at the end of a record
      record-rules : (r : AvlRecord) × (avl_record longest w s at ≡ (require (eqb sum n) 9 at >> (require (leb end (at + longest)) 12 at >> pure r)) s end) × (elements_of r ≡ n)
      unfolding avl_record
      record-rules =
          let f = walked_on _ fixed in
          let g = counted_of element_count _ elements in
          let r : AvlRecord = record { fixed = f.0; groups = g.0 } in (
            r,
            here-got _ s at
                ∙ then-got (fixed_fields w) _ s at f.1
                ∙ number-there _ s a₁ w.count h
                ∙ then-got (groups w (kinds w)) _ s (a₁ + w.count) g.1
                ∙ here-got _ s end
                ∙ ap₂ (λ (a b : ℕ). (require (eqb a b) 9 at >> (require (leb end (at + longest)) 12 at >> pure r)) s end) (sym is) g.2,
            g.2,
          )

      pub record-uneven : (sum ≡ n → ⊥) → counted elements_of (avl_record longest w s at) ≡ Err (record { number = 9; index = 0; place = at })
      record-uneven ne = counted-bad elements_of _ (record-rules.1 ∙ require-bad _ 9 at _ s end (ne_eqb sum n ne))

      pub record-forward : Bytes s → at ≤ length s → at ≤ end
      record-forward b k =
          let first = (((fixed-exact w).sound s at b k).if-got _ _ (walked_on _ fixed).1).0.size in
          let then = (((groups-exact w (kinds w)).sound s (a₁ + w.count) b h).if-got _ _ (counted_of element_count _ elements).1).0.size in
          omega arith

      pub record-long : sum ≡ n → longest < end - at → counted elements_of (avl_record longest w s at) ≡ Err (record { number = 12; index = 0; place = at })
      record-long e k =
          counted-bad elements_of _
          (record-rules.1 ∙ require-got _ 9 at _ s end (eq-eqb sum n e) ∙ require-bad _ 12 at _ s end (lt-leb end (at + longest) (omega arith)))

      pub record-on : sum ≡ n → end - at ≤ longest → counted elements_of (avl_record longest w s at) ≡ Ok (n, end)
      unfolding pure counted
      record-on e k =
          ap (counted elements_of)
          (record-rules.1 ∙ require-got _ 9 at _ s end (eq-eqb sum n e) ∙ require-got _ 12 at _ s end (le-leb end (at + longest) (omega arith)))
          ∙ ap (λ (m : ℕ). Ok (m, end)) record-rules.2

-- ---- records

abbrev pub nowhere : Span
nowhere = record { start = 0; end = 0; elements = 0 }

-- where the record `want` lies among records, the first of which begins at `at` and has this index; what was found before where it is none of them
unfoldable pub span_from : Widths → ℕ → ℕ → Span → ℕ → List AvlRecord → Span
span_from w want index found at [] = found
span_from w want index found at (r ∷ rs) =
    span_from w want (suc index) (pick (eqb index want) (record { start = at; end = at + length (record_bytes w r); elements = elements_of r }) found) (at + length (record_bytes w r)) rs

span-past : (w : Widths) (want index : ℕ) (found : Span) (at : ℕ) (rs : List AvlRecord) → want < index → span_from w want index found at rs ≡ found
unfolding span_from
span-past w want index found at [] h = refl
span-past w want index found at (r ∷ rs) h =
    span-past w want (suc index) _ (at + length (record_bytes w r)) rs (omega arith)
    ∙ pick-false (eqb index want) _ found (ne_eqb index want (λ e. omega arith))

span-ahead : (w : Widths) (want index n at : ℕ) (rs : List AvlRecord) → index + n ≡ want
    → span_from w want index nowhere at rs ≡ span_of w n at rs
unfolding span_from span_of
span-ahead w want index zero at [] e = refl
span-ahead w want index (suc n) at [] e = refl
span-ahead w want index zero at (r ∷ rs) e =
    span-past w want (suc index) _ (at + length (record_bytes w r)) rs (omega arith)
    ∙ pick_true (eqb index want) _ nowhere (eq-eqb index want (omega arith))
span-ahead w want index (suc n) at (r ∷ rs) e =
    ap (λ (x : Span). span_from w want (suc index) x (at + length (record_bytes w r)) rs) (pick-false (eqb index want) _ _ (ne_eqb index want (λ same. omega arith)))
    ∙ span-ahead w want (suc index) n (at + length (record_bytes w r)) rs (omega arith)

module _ (w : Widths) (s : List ℕ) (count want : ℕ) where
  -- the answer where these records are what is left, from `at` on
  unfoldable pub answered : ℕ → Span → ℕ → Read (List AvlRecord) → Answer Span
  answered index found at (got rs next) =
      pick (eqb next (length s)) (Ok (span_from w want index found at rs)) (Err (record { number = 8; index = count; place = next }))
  answered index found at (bad x) = Err x

  answered-whole : (r : Read (List AvlRecord)) → answered 0 nowhere 0 r ≡ spanned w want (and_then r (λ rs next. (at_end count >> pure rs) s next))
  unfolding answered and_then spanned at_end ◌>>◌ ◌>>=◌ pure
  answered-whole (bad x) = refl
  answered-whole (got rs next) = go (eqb next (length s))
    where
      go : (b : Bool) → pick b (Ok (span_from w want 0 nowhere 0 rs)) (Err (record { number = 8; index = count; place = next }))
          ≡ spanned w want (and_then (pick b (got (tt {0}) next) (bad (record { number = 8; index = count; place = next }))) (λ u n. got rs n))
      go true = ap Ok (span-ahead w want 0 want 0 rs (omega arith))
      go false = refl

  answered-consed : (index : ℕ) (found : Span) (at : ℕ) (r : AvlRecord) (x : Read (List AvlRecord)) → answered index found at (consed r x)
      ≡ answered (suc index) (pick (eqb index want) (record { start = at; end = at + length (record_bytes w r); elements = elements_of r }) found) (at + length (record_bytes w r)) x
  unfolding answered consed span_from
  answered-consed index found at r (got rs next) = refl
  answered-consed index found at r (bad x) = refl

  module _ (longest : ℕ) where
    -- the answer from the record `i` on
    unfoldable pub answer_from : ℕ → Span → ℕ → Answer Span
    answer_from i found next = answered i found next (avl_records longest w i (count - i) s next)

    pub answer-whole : answer_from 0 nowhere 0 ≡ spanned w want (all_records longest w count s 0)
    unfolding answer_from all_records ◌>>=◌
    answer-whole =
        ap (λ (n : ℕ). answered 0 nowhere 0 (avl_records longest w 0 n s 0)) (omega arith) ∙ answered-whole (avl_records longest w 0 count s 0)

    module _ (i : ℕ) (found : Span) (next : ℕ) where
      -- the first of the records that are left
      one_more : i < count → avl_records longest w i (count - i) s next
          ≡ (in_record i (avl_record longest w) >>= λ r. avl_records longest w (i + 1) (count - (i + 1)) >>= λ rs. pure (r ∷ rs)) s next
      unfolding avl_records
      one_more h =
          let more : count - i ≡ suc (count - (i + 1)) = omega arith in
          ap (λ (n : ℕ). avl_records longest w i n s next) more
          ∙ ap (λ (k : ℕ). (in_record i (avl_record longest w) >>= λ r. avl_records longest w k (count - (i + 1)) >>= λ rs. pure (r ∷ rs)) s next) (sym (add-one i))

      pub answer-broken : {x : Refusal} → i < count → counted elements_of (avl_record longest w s next) ≡ Err x
          → answer_from i found next ≡ Err (record { number = x.number; index = i; place = x.place })
      unfolding answer_from answered in_record tagged
      answer-broken h e =
          ap (answered i found next) (one_more h ∙ then-bad (in_record i (avl_record longest w)) _ s next (ap (tagged i) (counted-stopped elements_of _ e)))

      pub answer-on : {n to : ℕ} → Bytes s → next ≤ length s → i < count → counted elements_of (avl_record longest w s next) ≡ Ok (n, to)
          → answer_from (i + 1) (pick (eqb i want) (record { start = next; end = to; elements = n }) found) to ≡ answer_from i found next
      unfolding answer_from in_record tagged
      answer-on {n} {to} b k h e =
          let r = counted_of elements_of _ e in
          let rest = avl_records longest w (i + 1) (count - (i + 1)) in
          let size = (((record-exact longest w).sound s next b k).if-got _ _ r.1).0.size in
          sym (ap (answered i found next) (one_more h ∙ list_on (in_record i (avl_record longest w)) rest s next (ap (tagged i) r.1))
          ∙ answered-consed i found next r.0 (rest s to)
          ∙ ap₂ (λ (m end : ℕ). answered m (pick (eqb i want) (record { start = next; end = end; elements = elements_of r.0 }) found) end (rest s to)) (sym (add-one i)) (sym size)
          ∙ ap (λ (m : ℕ). answered (i + 1) (pick (eqb i want) (record { start = next; end = to; elements = m }) found) to (rest s to)) r.2)

      pub answer-over : count ≤ i → (next ≡ length s → ⊥) → answer_from i found next ≡ Err (record { number = 8; index = count; place = next })
      unfolding answer_from answered avl_records pure
      answer-over h ne =
          let none : count - i ≡ 0 = omega arith in
          ap (λ (n : ℕ). answered i found next (avl_records longest w i n s next)) none ∙ pick-false (eqb next (length s)) _ _ (ne_eqb next (length s) ne)

      pub answer-done : count ≤ i → next ≡ length s → answer_from i found next ≡ Ok found
      unfolding answer_from answered avl_records pure span_from
      answer-done h e =
          let none : count - i ≡ 0 = omega arith in
          ap (λ (n : ℕ). answered i found next (avl_records longest w i n s next)) none ∙ pick_true (eqb next (length s)) _ _ (eq-eqb next (length s) e)

-- ---- a data field

spanned-all : (w : Widths) (want : ℕ) (r : Read (List AvlRecord)) {span : Span} → spanned w want r ≡ Ok span
    → (rs : List AvlRecord) × (next : ℕ) × (r ≡ got rs next) × (span_of w want 0 rs ≡ span)
unfolding spanned
spanned-all w want (got rs next) e = (rs, next, refl, cc)
spanned-all w want (bad x) e = absurd (let z : ◌≡◌ {A = ℕ} 0 1 = cc in omega arith)

spanned-broken : (w : Widths) (want : ℕ) (r : Read (List AvlRecord)) {x : Refusal} → spanned w want r ≡ Err x → r ≡ bad x
unfolding spanned
spanned-broken w want (got rs next) e = absurd (let z : ◌≡◌ {A = ℕ} 0 1 = cc in omega arith)
spanned-broken w want (bad y) e = ap bad (cc)

-- the records of a data field, and what it is with them
abbrev pub records_of : ℕ → List ℕ → Read (List AvlRecord)
records_of longest d = all_records longest (widths_of (codec_of d)) (first_count d) (inner d) 0

abbrev with_records : ℕ → Read (List AvlRecord) → Answer AvlData
with_records codec r = on_accepted (told 2 r) (λ rs. Ok (record { codec = codec; records = rs }))

-- what is refused of a field that starts at `base`
pub walk_refused : (base want : ℕ) (r : Answer AvlData) {x : Refusal} → r ≡ Err x → data_walk want (from base r) ≡ Err (moved_by base x)
unfolding from data_walk
walk_refused base want r e = ap (λ a. data_walk want (from base a)) e

module _ (longest : ℕ) (d : List ℕ) where
  pub data-unknown : is_data_codec (codec_of d) ≡ false → read_data longest d ≡ Err (refusal_at 6 0)
  unfolding read_data
  data-unknown e = check-failed _ 6 _ _ e

  module _ (known : is_data_codec (codec_of d) ≡ true) where
    pub data-none : first_count d < 1 → read_data longest d ≡ Err (refusal_at 7 1)
    unfolding read_data
    data-none h = check-passed _ 6 _ _ known ∙ check-failed _ 7 _ _ (lt-leb 1 (first_count d) h)

    module _ (some : 1 ≤ first_count d) where
      pub data-uneven : (first_count d ≡ last_count d → ⊥) → read_data longest d ≡ Err (refusal_at 7 (length d - 1))
      unfolding read_data
      data-uneven ne = check-passed _ 6 _ _ known ∙ check-passed _ 7 _ _ (le-leb 1 (first_count d) some) ∙ check-failed _ 7 _ _ (ne_eqb (first_count d) (last_count d) ne)

      module _ (even : first_count d ≡ last_count d) where
        data-walk : read_data longest d ≡ with_records (codec_of d) (records_of longest d)
        unfolding read_data
        data-walk =
            check-passed _ 6 _ _ known ∙ check-passed _ 7 _ _ (le-leb 1 (first_count d) some) ∙ check-passed _ 7 _ _ (eq-eqb (first_count d) (last_count d) even)

        pub data-bad : {x : Refusal} → records_of longest d ≡ bad x → read_data longest d ≡ Err (moved_by 2 x)
        unfolding told on_accepted
        data-bad e = data-walk ∙ ap (with_records (codec_of d)) e

        pub data-got : {rs : List AvlRecord} {n : ℕ} → records_of longest d ≡ got rs n → read_data longest d ≡ Ok (record { codec = codec_of d; records = rs })
        unfolding told on_accepted
        data-got e = data-walk ∙ ap (with_records (codec_of d)) e

        pub data-broken : (want : ℕ) {x : Refusal} → spanned (widths_of (codec_of d)) want (records_of longest d) ≡ Err x → read_data longest d ≡ Err (moved_by 2 x)
        data-broken want e = data-bad (spanned-broken _ want _ e)

        pub data-taken : (base want : ℕ) {span : Span} → Bytes d → spanned (widths_of (codec_of d)) want (records_of longest d) ≡ Ok span
            → data_walk want (from base (read_data longest d)) ≡ Ok (record { codec = (codec_of d); count = (first_count d); span = span })
        unfolding from data_walk
        data-taken base want b e =
            let rs = spanned-all _ want _ e in
            let size = ((all_sound longest (widths_of (codec_of d)) (first_count d) (inner d) (bytes-inner d b)).if-got _ _ rs.2).1 in
            ap (λ r. data_walk want (from base r)) (data-got rs.2) ∙ ap₂ (λ (n : ℕ) (k : Span). Ok (record { codec = codec_of d; count = n; span = k })) size rs.3

-- a fault lies in the space between the counts
pub broken-inside : (longest want : ℕ) (d : List ℕ) {x : Refusal} → 3 ≤ length d → spanned (widths_of (codec_of d)) want (records_of longest d) ≡ Err x
    → x.place + 3 ≤ length d
unfolding inner
broken-inside longest want d {x} h e =
    let k = (all_local (widths_of (codec_of d)) (inner d) (narrow (codec_of d)).generation longest (first_count d) 0 (omega arith)).stops x (spanned-broken _ want _ e) in
    omega (arith, k.inside, length-take-le (length d - 3) (drop 2 d) (omega (arith, length-drop 2 d)))
