-- What was read tells of the bytes: of an element, of a group, of a record.
use Prim.Native.Nat.{ℕ, zero, suc, ◌+◌, ◌≤◌, ◌<◌}
use native.Mathlib.Nat.{add-zero}
use native.Mathlib.Omega.{arith}
use mathlib.Core.Path.{◌≡◌, refl, sym, ap, ◌∙◌}
use mathlib.Core.Bool.{Bool, true, false}
use mathlib.Core.List.{List, [], ◌∷◌}
use lib.ListN.{length, drop, length-drop}
use lib.Seq.{length-take-le}
use lib.Dec.{eqb}
use lib.IntN.{ℤ}
use borrow.Author.Tests.{eq-eqb, ne_eqb}
use Rattle.wire.specs.Numbers.{number_at, signed, pick}
use Rattle.wire.specs.Reading.{Read, got, Reader, pure, number, repeat}
use Rattle.wire.proofs.Accepting.{pick_true, pick-false}
use Rattle.wire.proofs.Exactness.{Meets, meets-pure}
use Rattle.avl.specs.declared.Widths.{Widths}
use Rattle.avl.specs.Codecs.{kinds}
use Rattle.avl.specs.Records.{Element, AvlRecord, element_count}
use Rattle.avl.specs.RecordReader.{value_size, element, group, groups, plain_record}
use Rattle.avl.proofs.Inversion as Inversion
use Rattle.avl.proofs.Inversion.{number-meets, ListRead, list_read, fixed_at, fixed-read}
use Rattle.element.specs.declared.RecordFields.{RecordFields}
use Rattle.element.specs.declared.Value.{Value}
use Rattle.element.specs.Results.{record_result}
use Rattle.element.specs.Elements.{lead_size, fixed_size}
use Rattle.element.specs.Search.{value_at}

-- ---- readers

pub got_same : {A : Type 0} {r : Read A} {a b : A} {m n : ℕ} → r ≡ got a m → r ≡ got b n → (a ≡ b) × (m ≡ n)
got_same e f = (cc, cc)

-- ---- an element

-- the length of a value, and where the value begins
size-meets : (variable : Bool) (kind : ℕ) (s : List ℕ) (at : ℕ)
    → Meets (pick variable (number 2) (pure kind) s at) (λ size mid. (size ≡ pick variable (number_at s at 2) kind) × (mid ≡ at + pick variable 2 0))
size-meets true kind s at = number-meets 2 s at (λ h. (refl, refl))
size-meets false kind s at = meets-pure kind s at (refl, sym (add-zero at))

pub record ElementRead (w : Widths) (kind : ℕ) (s : List ℕ) (at : ℕ) (e : Element) (next : ℕ) : Type 0 where
  pub id_is : number_at s at w.id ≡ e.id
  pub size_is : length e.value ≡ pick (eqb kind 9) (number_at s (at + w.id) 2) kind
  pub ends : next ≡ at + lead_size w kind + length e.value
  pub inside : next ≤ length s
  pub onward : 1 ≤ kind → at < next

pub element-read : (w : Widths) (kind : ℕ) (s : List ℕ) (at : ℕ) → Meets (element w kind s at) (ElementRead w kind s at)
unfolding value_size lead_size
element-read w kind s at =
    record {
      if-got = λ e n h.
          let r = (Inversion.element-read w kind s at).if-got e n h in
          let k = (size-meets (eqb kind 9) kind s (at + w.id)).if-got _ _ r.sized in
          let size : length e.value ≡ r.size = ap (λ (x : Element). length x.value) r.is ∙ length-take-le r.size (drop r.start s) (simp length-drop (omega (arith, r.inside))) in
          let start : at + lead_size w kind ≡ r.start = omega (arith, k.1) in
          record {
            id_is = sym (ap (λ (x : Element). x.id) r.is);
            size_is = size ∙ k.0;
            ends = omega (arith, size, r.end, start);
            inside = omega (arith, r.end, r.inside);
            onward = λ i. omega (arith, ((Inversion.size-read kind s (at + w.id)).if-got _ _ r.sized).paced i, r.end);
          };
    }

-- an element that was read, and its value by its kind
module _ {w : Widths} {kind : ℕ} {s : List ℕ} {at : ℕ} {e : Element} {next : ℕ} (h : ElementRead w kind s at e next) where
  pub id-within : at + w.id ≤ length s
  unfolding lead_size
  id-within = omega (arith, h.ends, h.inside)

  pub size-within : kind ≡ 9 → at + w.id + 2 ≤ length s
  unfolding lead_size
  size-within k = omega (arith, h.ends, h.inside, pick_true {A = ℕ} (eqb kind 9) 2 0 (eq-eqb kind 9 k))

  value-is : {id k offset size : ℕ} → id ≡ number_at s at w.id → k ≡ kind → offset ≡ at + lead_size w kind → size ≡ pick (eqb kind 9) (number_at s (at + w.id) 2) kind
      → ◌≡◌ {A = Value} (record { id = id; kind = k; offset = offset; size = size }) (value_at w kind at e)
  unfolding value_at
  value-is a b c d =
      let i : _ ≡ e.id = a ∙ h.id_is in
      let l : _ ≡ length e.value = d ∙ sym h.size_is in
      cc

  pub variable-value : {id size : ℕ} → kind ≡ 9 → id ≡ number_at s at w.id → size ≡ number_at s (at + w.id) 2
      → ◌≡◌ {A = Value} (record { id = id; kind = 9; offset = at + w.id + 2; size = size }) (value_at w kind at e)
  unfolding lead_size
  variable-value k a d =
      let t = eq-eqb kind 9 k in
      value-is a (sym k) (omega (arith, pick_true {A = ℕ} (eqb kind 9) 2 0 t)) (d ∙ sym (pick_true (eqb kind 9) _ _ t))

  pub fixed-value : {id : ℕ} → (kind ≡ 9 → ⊥) → id ≡ number_at s at w.id
      → ◌≡◌ {A = Value} (record { id = id; kind = kind; offset = at + w.id; size = kind }) (value_at w kind at e)
  unfolding lead_size
  fixed-value k a =
      let t = ne_eqb kind 9 k in
      value-is a refl (omega (arith, pick-false {A = ℕ} (eqb kind 9) 2 0 t)) (sym (pick-false (eqb kind 9) _ _ t))

-- ---- lists

pub repeat-parted : {A : Type 0} (n : ℕ) (m : Reader A) (s : List ℕ) (at : ℕ) → Meets (repeat (suc n) m s at) (ListRead m (repeat n m) s at)
unfolding repeat
repeat-parted n m s at = list_read m (repeat n m) s at

pub repeat-nothing : {A : Type 0} (m : Reader A) (s : List ℕ) (at : ℕ) → Meets (repeat 0 m s at) (λ l next. (l ≡ []) × (next ≡ at))
unfolding repeat
repeat-nothing m s at = meets-pure [] s at (refl, refl)

-- elements of a kind, one behind another
module _ (w : Widths) (kind : ℕ) (s : List ℕ) where
  -- as many as were asked for
  pub repeat-size : (n at : ℕ) (g : List Element) (end : ℕ) → repeat n (element w kind) s at ≡ got g end → length g ≡ n
  repeat-size zero at g end h = ap length ((repeat-nothing (element w kind) s at).if-got _ _ h).0
  repeat-size (suc n) at g end h =
      let p = (repeat-parted n (element w kind) s at).if-got _ _ h in
      ap length p.is ∙ ap suc (repeat-size n p.mid p.others end p.more)

  pub repeat-inside : (n at : ℕ) (g : List Element) (end : ℕ) → repeat n (element w kind) s at ≡ got g end → at ≤ length s → end ≤ length s
  repeat-inside zero at g end h i = omega (arith, ((repeat-nothing (element w kind) s at).if-got _ _ h).1)
  repeat-inside (suc n) at g end h i =
      let p = (repeat-parted n (element w kind) s at).if-got _ _ h in
      repeat-inside n p.mid p.others end p.more ((element-read w kind s at).if-got _ _ p.one).inside

  -- each has a byte at least
  pub repeat-onward : 1 ≤ kind → (n at : ℕ) (g : List Element) (end : ℕ) → repeat n (element w kind) s at ≡ got g end → at + n ≤ end
  repeat-onward k zero at g end h = omega (arith, ((repeat-nothing (element w kind) s at).if-got _ _ h).1)
  repeat-onward k (suc n) at g end h =
      let p = (repeat-parted n (element w kind) s at).if-got _ _ h in
      omega (arith, ((element-read w kind s at).if-got _ _ p.one).onward k, repeat-onward k n p.mid p.others end p.more)

pub groups-parted : (w : Widths) (k : ℕ) (ks : List ℕ) (s : List ℕ) (at : ℕ) → Meets (groups w (k ∷ ks) s at) (ListRead (group w k) (groups w ks) s at)
unfolding groups
groups-parted w k ks s at = list_read (group w k) (groups w ks) s at

-- ---- a record

pub record RecordRead (w : Widths) (s : List ℕ) (x : AvlRecord) (next : ℕ) : Type 0 where
  pub fixed_is : x.fixed ≡ fixed_at w s 0
  pub inside : fixed_size w ≤ length s
  pub groups_read : groups w (kinds w) s (fixed_size w) ≡ got x.groups next

pub record-read : (w : Widths) (s : List ℕ) → Meets (plain_record w s 0) (RecordRead w s)
unfolding fixed_size
record-read w s =
    record {
      if-got = λ x n h.
          let r = (Inversion.record-read w s 0).if-got x n h in
          let f = (fixed-read w s 0).if-got _ _ r.fixed in
          let at : r.start + w.count ≡ 24 + w.event + w.generation + w.count = omega (arith, f.end) in
          record { fixed_is = f.is; inside = omega (arith, r.inside); groups_read = ap (groups w (kinds w) s) (sym at) ∙ r.groups_read };
    }

module _ {w : Widths} {s : List ℕ} {x : AvlRecord} {next : ℕ} (h : RecordRead w s x next) where
  pub fields_within : 24 + w.event + w.generation ≤ length s
  unfolding fixed_size
  fields_within = omega (arith, h.inside)

  pub record-fields : {timestamp priority angle satellites speed event generation elements : ℕ} {longitude latitude altitude : ℤ}
      → timestamp ≡ number_at s 0 8
      → priority ≡ number_at s 8 1
      → longitude ≡ signed 4 (number_at s 9 4)
      → latitude ≡ signed 4 (number_at s 13 4)
      → altitude ≡ signed 2 (number_at s 17 2)
      → angle ≡ number_at s 19 2
      → satellites ≡ number_at s 21 1
      → speed ≡ number_at s 22 2
      → event ≡ number_at s 24 w.event
      → generation ≡ number_at s (24 + w.event) w.generation
      → elements ≡ element_count x.groups
      → ◌≡◌ {A = RecordFields} (record { timestamp = timestamp; priority = priority; longitude = longitude; latitude = latitude; altitude = altitude; angle = angle; satellites = satellites; speed = speed; event = event; generation = generation; elements = elements }) (record_result x)
  unfolding record_result
  record-fields a b c d e f g i j k l = simp (h.fixed_is, a, b, c, d, e, f, g, i, j, k, l)
