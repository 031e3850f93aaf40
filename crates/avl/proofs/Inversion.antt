-- What is known of the bytes where a reader has read something.
use Prim.Native.Nat.{ℕ, zero, suc, ◌+◌, ◌*◌, ◌≤◌, ◌<◌}
use native.Mathlib.Omega.{arith}
use mathlib.Core.Path.{◌≡◌, refl, sym, ap, ◌∙◌}
use mathlib.Core.Bool.{Bool, true, false}
use mathlib.Core.List.{List, ◌∷◌, ◌++◌}
use lib.ListN.{length, take, drop, length-append}
use lib.Dec.{eqb, leb}
use borrow.Author.Tests.{leb-true, leb-false, eqb-false}
use Rattle.wire.specs.declared.Refusal.{Refusal}
use Rattle.wire.specs.Numbers.{Bytes, number_at, be, pick}
use Rattle.wire.proofs.Widths.{length_digits}
use Rattle.wire.specs.Reading.{Read, got, bad, Reader, ◌>>=◌, pure, here, require, number, bytes, up_to, repeat}
use Rattle.wire.proofs.Exactness.{Meets, meets-then, meets-next, meets-got, meets-pure, meets-require, then-got}
use Rattle.wire.proofs.Walking.{then-bad, number-got, number-bad, bytes-got, bytes-bad, number-there, number-missing, up_to-there, up_to-missing, up_to-over}
use Rattle.avl.specs.declared.Widths.{Widths}
use Rattle.avl.specs.Codecs.{kinds}
use Rattle.avl.specs.Records.{Element, Fixed, AvlRecord, element_count, fixed_bytes, groups_bytes, record_bytes}
use Rattle.avl.proofs.RecordLaws.{fixed-exact, groups-exact}
use Rattle.avl.specs.RecordReader.{value_size, element, group, groups, fixed_fields, avl_record, plain_record, tagged, in_record, avl_records}

module _ {A : Type 0} {Q : A → ℕ → Type 0} {r : Read A} where
  pub meets-is : {q : Read A} → r ≡ q → Meets q Q → Meets r Q
  meets-is e h = record { if-got = λ a n k. h.if-got a n (sym e ∙ k) }

  meets-not : {x : Refusal} → r ≡ bad x → Meets r Q
  meets-not e = record { if-got = λ a n k. absurd (let z : ◌≡◌ {A = ℕ} 0 1 = cc in omega arith) }

  -- by which way a test goes
  meets-either : (a b : ℕ) → (a ≤ b → Meets r Q) → (b < a → (x : Refusal) × (r ≡ bad x)) → Meets r Q
  meets-either a b h k = go (leb a b) refl
    where
      go : (t : Bool) → leb a b ≡ t → Meets r Q
      go true e = h (leb-true a b e)
      go false e = meets-not (k (leb-false a b e)).1

pub meets-self : {A : Type 0} (r : Read A) → Meets r (λ a n. r ≡ got a n)
meets-self r = record { if-got = λ a n e. e }

module _ {B : Type 0} {Q : B → ℕ → Type 0} (s : List ℕ) (at : ℕ) where
  pub number-on : (w : ℕ) (f : ℕ → Reader B) → (at + w ≤ length s → Meets (f (number_at s at w) s (at + w)) Q) → Meets ((number w >>= f) s at) Q
  number-on w f h = meets-either (at + w) (length s) (λ k. meets-is (number-there f s at w k) (h k)) (λ k. (_, number-missing f s at w k))

  up_to-on : (w most refusal : ℕ) (f : ℕ → Reader B) → (at + w ≤ length s → Meets (f (number_at s at w) s (at + w)) Q)
      → Meets ((up_to w most refusal >>= f) s at) Q
  up_to-on w most refusal f h =
      meets-either (at + w) (length s)
      (λ k. meets-either (number_at s at w) most (λ i. meets-is (up_to-there f s at w most refusal k i) (h k)) (λ i. (_, up_to-over f s at w most refusal k i)))
      (λ k. (_, up_to-missing f s at w most refusal k))

  bytes_on : (n : ℕ) (f : List ℕ → Reader B) → (at + n ≤ length s → Meets (f (take n (drop at s)) s (at + n)) Q) → Meets ((bytes n >>= f) s at) Q
  bytes_on n f h =
      meets-either (at + n) (length s) (λ k. meets-is (then-got (bytes n) f s at (bytes-got n s at k)) (h k))
      (λ k. (_, then-bad (bytes n) f s at (bytes-bad n s at k)))

pub number-meets : {Q : ℕ → ℕ → Type 0} (w : ℕ) (s : List ℕ) (at : ℕ) → (at + w ≤ length s → Q (number_at s at w) (at + w)) → Meets (number w s at) Q
number-meets w s at h =
    meets-either (at + w) (length s) (λ k. meets-is (number-got w s at k) (meets-got _ _ (h k))) (λ k. (_, number-bad w s at k))

-- ---- an element

-- the value's length: where it stands, and how far it leads
pub record SizeRead (kind : ℕ) (s : List ℕ) (at size mid : ℕ) : Type 0 where
  pub stands : kind ≡ 9 → at + 2 ≤ length s
  pub paced : 1 ≤ kind → 8 * at + size + 6 ≤ 8 * mid + 8 * size

pub size-read : (kind : ℕ) (s : List ℕ) (at : ℕ) → Meets (value_size kind s at) (λ size mid. SizeRead kind s at size mid)
unfolding value_size
size-read kind s at = go (eqb kind 9) refl
  where
    go : (b : Bool) → eqb kind 9 ≡ b → Meets (pick b (number 2) (pure kind) s at) (λ size mid. SizeRead kind s at size mid)
    go true e = number-meets 2 s at (λ h. record { stands = λ k. h; paced = λ k. omega arith })
    go false e = meets-pure kind s at (record { stands = λ k. absurd (eqb-false kind 9 e k); paced = λ k. omega arith })

pub record ElementRead (w : Widths) (kind : ℕ) (s : List ℕ) (at : ℕ) (e : Element) (n : ℕ) : Type 0 where
  pub room : at + w.id ≤ length s
  pub size : ℕ
  pub start : ℕ
  pub sized : value_size kind s (at + w.id) ≡ got size start
  pub inside : start + size ≤ length s
  pub is : e ≡ record { id = number_at s at w.id; value = take size (drop start s) }
  pub end : n ≡ start + size

pub element-read : (w : Widths) (kind : ℕ) (s : List ℕ) (at : ℕ) → Meets (element w kind s at) (ElementRead w kind s at)
unfolding element
element-read w kind s at =
    number-on s at w.id _ (λ h.
    meets-then (value_size kind) _ s (at + w.id) (meets-self _) (λ size start k.
    bytes_on s start size _ (λ i.
    meets-pure _ s (start + size) (record { room = h; size = size; start = start; sized = k; inside = i; is = refl; end = refl }))))

-- ---- a group

pub record GroupRead (w : Widths) (kind : ℕ) (s : List ℕ) (at : ℕ) (g : List Element) (n : ℕ) : Type 0 where
  pub inside : at + w.count ≤ length s
  pub elements : repeat (number_at s at w.count) (element w kind) s (at + w.count) ≡ got g n

pub group-read : (w : Widths) (kind : ℕ) (s : List ℕ) (at : ℕ) → Meets (group w kind s at) (GroupRead w kind s at)
unfolding group
group-read w kind s at = number-on s at w.count _ (λ h. record { if-got = λ g n e. record { inside = h; elements = e } })

-- ---- the fixed fields

abbrev pub fixed_at : Widths → List ℕ → ℕ → Fixed
fixed_at w s at =
    record {
      timestamp = number_at s (at + 0) 8;
      priority = number_at s (at + 8) 1;
      longitude = number_at s (at + 9) 4;
      latitude = number_at s (at + 13) 4;
      altitude = number_at s (at + 17) 2;
      angle = number_at s (at + 19) 2;
      satellites = number_at s (at + 21) 1;
      speed = number_at s (at + 22) 2;
      event = number_at s (at + 24) w.event;
      generation = number_at s (at + 24 + w.event) w.generation;
    }

pub record FixedRead (w : Widths) (s : List ℕ) (at : ℕ) (f : Fixed) (n : ℕ) : Type 0 where
  pub inside : n ≤ length s
  pub is : f ≡ fixed_at w s at
  pub end : n ≡ at + 24 + w.event + w.generation

pub fixed-read : (w : Widths) (s : List ℕ) (at : ℕ) → Meets (fixed_fields w s at) (FixedRead w s at)
unfolding fixed_fields
fixed-read w s at =
    number-on s at 8 _ (λ h₁.
    up_to-on s (at + 8) 1 2 10 _ (λ h₂.
    number-on s (at + 8 + 1) 4 _ (λ h₃.
    number-on s (at + 8 + 1 + 4) 4 _ (λ h₄.
    number-on s (at + 8 + 1 + 4 + 4) 2 _ (λ h₅.
    number-on s (at + 8 + 1 + 4 + 4 + 2) 2 _ (λ h₆.
    number-on s (at + 8 + 1 + 4 + 4 + 2 + 2) 1 _ (λ h₇.
    number-on s (at + 8 + 1 + 4 + 4 + 2 + 2 + 1) 2 _ (λ h₈.
    number-on s (at + 8 + 1 + 4 + 4 + 2 + 2 + 1 + 2) w.event _ (λ h₉.
    up_to-on s (at + 8 + 1 + 4 + 4 + 2 + 2 + 1 + 2 + w.event) w.generation 7 11 _ (λ h₁₀.
    meets-pure _ s _ (record { inside = h₁₀; is = same; end = omega arith })))))))))))
  where
    p₀ : at ≡ at + 0
    p₀ = omega arith

    p₂ : at + 8 + 1 ≡ at + 9
    p₂ = omega arith

    p₃ : at + 8 + 1 + 4 ≡ at + 13
    p₃ = omega arith

    p₄ : at + 8 + 1 + 4 + 4 ≡ at + 17
    p₄ = omega arith

    p₅ : at + 8 + 1 + 4 + 4 + 2 ≡ at + 19
    p₅ = omega arith

    p₆ : at + 8 + 1 + 4 + 4 + 2 + 2 ≡ at + 21
    p₆ = omega arith

    p₇ : at + 8 + 1 + 4 + 4 + 2 + 2 + 1 ≡ at + 22
    p₇ = omega arith

    p₈ : at + 8 + 1 + 4 + 4 + 2 + 2 + 1 + 2 ≡ at + 24
    p₈ = omega arith

    same : ◌≡◌ {A = Fixed} (record {
      timestamp = number_at s at 8;
      priority = number_at s (at + 8) 1;
      longitude = number_at s (at + 8 + 1) 4;
      latitude = number_at s (at + 8 + 1 + 4) 4;
      altitude = number_at s (at + 8 + 1 + 4 + 4) 2;
      angle = number_at s (at + 8 + 1 + 4 + 4 + 2) 2;
      satellites = number_at s (at + 8 + 1 + 4 + 4 + 2 + 2) 1;
      speed = number_at s (at + 8 + 1 + 4 + 4 + 2 + 2 + 1) 2;
      event = number_at s (at + 8 + 1 + 4 + 4 + 2 + 2 + 1 + 2) w.event;
      generation = number_at s (at + 8 + 1 + 4 + 4 + 2 + 2 + 1 + 2 + w.event) w.generation;
    }) (fixed_at w s at)
    same = λ i. record {
      timestamp = number_at s (p₀ i) 8;
      priority = number_at s (at + 8) 1;
      longitude = number_at s (p₂ i) 4;
      latitude = number_at s (p₃ i) 4;
      altitude = number_at s (p₄ i) 2;
      angle = number_at s (p₅ i) 2;
      satellites = number_at s (p₆ i) 1;
      speed = number_at s (p₇ i) 2;
      event = number_at s (p₈ i) w.event;
      generation = number_at s (p₈ i + w.event) w.generation;
    }

-- ---- a record

pub record RecordRead (w : Widths) (s : List ℕ) (at : ℕ) (r : AvlRecord) (n : ℕ) : Type 0 where
  pub start : ℕ
  pub fixed : fixed_fields w s at ≡ got r.fixed start
  pub inside : start + w.count ≤ length s
  pub groups_read : groups w (kinds w) s (start + w.count) ≡ got r.groups n

pub record-read : (w : Widths) (s : List ℕ) (at : ℕ) → Meets (plain_record w s at) (RecordRead w s at)
unfolding plain_record
record-read w s at =
    meets-then (fixed_fields w) _ s at (meets-self _) (λ f n₁ k₁.
    number-on s n₁ w.count _ (λ h.
    meets-then (groups w (kinds w)) _ s (n₁ + w.count) (meets-self _) (λ gs n₂ k₂.
    meets-pure _ s n₂ (record { start = n₁; fixed = k₁; inside = h; groups_read = k₂ }))))

judged-read : (longest : ℕ) (w : Widths) (s : List ℕ) (at : ℕ) → Meets (avl_record longest w s at) (RecordRead w s at)
unfolding avl_record here
judged-read longest w s at =
    meets-is (then-got here _ s at refl)
    (meets-then (fixed_fields w) _ s at (meets-self _) (λ f n₁ k₁.
    number-on s n₁ w.count _ (λ h.
    meets-then (groups w (kinds w)) _ s (n₁ + w.count) (meets-self _) (λ gs n₂ k₂.
    meets-is (then-got here _ s n₂ refl)
    (meets-next (require (eqb (number_at s n₁ w.count) (element_count gs)) 9 at) _ s n₂ (meets-require _ _ _ s n₂) (λ u n₃ k₃.
    meets-next (require (leb n₂ (at + longest)) 12 at) _ s n₃ (meets-require _ _ _ s n₃) (λ v n₄ k₄.
    meets-pure _ s n₄ (record { start = n₁; fixed = k₁; inside = h; groups_read = k₂ ∙ ap (got gs) (sym (k₄.1 ∙ k₃.1)) }))))))))

-- whatever the limit, a record that is judged is read as it stands
pub plain-record : (longest : ℕ) (w : Widths) (s : List ℕ) (at : ℕ) {r : AvlRecord} {n : ℕ} → avl_record longest w s at ≡ got r n → plain_record w s at ≡ got r n
unfolding plain_record pure
plain-record longest w s at e =
    let k = (judged-read longest w s at).if-got _ _ e in
    then-got (fixed_fields w) _ s at k.fixed
    ∙ number-there _ s k.start w.count k.inside
    ∙ then-got (groups w (kinds w)) _ s (k.start + w.count) k.groups_read

-- and it has the bytes that it is written as
pub plain_size : (w : Widths) (s : List ℕ) (at : ℕ) {r : AvlRecord} {n : ℕ} → Bytes s → at ≤ length s → plain_record w s at ≡ got r n
    → (n ≤ length s) × (n ≡ at + length (record_bytes w r))
unfolding record_bytes
plain_size w s at {r} b h e =
    let k = (record-read w s at).if-got _ _ e in
    let f = (((fixed-exact w).sound s at b h).if-got _ _ k.fixed).0 in
    let g = (((groups-exact w (kinds w)).sound s (k.start + w.count) b k.inside).if-got _ _ k.groups_read).0 in
    let sum = be w.count (element_count r.groups) in
    let rest = groups_bytes w (kinds w) r.groups in
    let whole = length-append (fixed_bytes w r.fixed) (sum ++ rest) in
    (g.inside, omega (arith, f.size, g.size, whole, length-append sum rest, length_digits 256 w.count (element_count r.groups)))

-- ---- lists

-- the first, and the others behind it
pub record ListRead {A : Type 0} (m : Reader A) (rest : Reader (List A)) (s : List ℕ) (at : ℕ) (l : List A) (n : ℕ) : Type 0 where
  pub first : A
  pub mid : ℕ
  pub one : m s at ≡ got first mid
  pub others : List A
  pub more : rest s mid ≡ got others n
  pub is : l ≡ first ∷ others

abbrev pub listed : {A : Type 0} → Reader A → Reader (List A) → Reader (List A)
listed m rest = m >>= λ a. rest >>= λ l. pure (a ∷ l)

pub list_read : {A : Type 0} (m : Reader A) (rest : Reader (List A)) (s : List ℕ) (at : ℕ) → Meets (listed m rest s at) (ListRead m rest s at)
list_read m rest s at =
    meets-then m _ s at (meets-self _) (λ a mid k.
    meets-then rest _ s mid (meets-self _) (λ l n i.
    meets-pure (a ∷ l) s n (record { first = a; mid = mid; one = k; others = l; more = i; is = refl })))

tagged-got : {A : Type 0} (i : ℕ) (r : Read A) {a : A} {n : ℕ} → tagged i r ≡ got a n → r ≡ got a n
unfolding tagged
tagged-got i (got b m) e = e
tagged-got i (bad x) e = absurd (let z : ◌≡◌ {A = ℕ} 0 1 = cc in omega arith)

-- the same of records one behind another
pub plain-records : (longest : ℕ) (w : Widths) (i n : ℕ) (s : List ℕ) (at : ℕ) {rs : List AvlRecord} {m : ℕ}
    → avl_records longest w i n s at ≡ got rs m → repeat n (plain_record w) s at ≡ got rs m
unfolding avl_records repeat pure in_record
plain-records longest w i zero s at e = e
plain-records longest w i (suc n) s at {rs} {m} e =
    let k = (list_read (in_record i (avl_record longest w)) (avl_records longest w (suc i) n) s at).if-got _ _ e in
    then-got (plain_record w) _ s at (plain-record longest w s at (tagged-got i (avl_record longest w s at) k.one))
    ∙ then-got (repeat n (plain_record w)) _ s k.mid (plain-records longest w (suc i) n s k.mid k.more)
    ∙ ap (λ (l : List AvlRecord). got l m) (sym k.is)
