-- The laws of numbers as bytes, each once for every width.
use Prim.Native.Nat.{ℕ, zero, suc, ◌+◌, ◌*◌, ◌/◌, ◌%◌, ◌^◌, ◌≤◌, ◌<◌}
use native.Mathlib.Nat.{add-zero, zero-add, add-suc, div-add-mod', mod-lt, mod-eq_of_lt, div-lt_iff_lt-mul, pow-zero, pow-suc, pow-le-pow_right, mul-one, mul_assoc, mul_comm, mul-le-mul_right, suc-add, le_refl, le_trans}
use native.Mathlib.Numerals.{add-one}
use native.Mathlib.Omega.{arith}
use mathlib.Core.Path.{◌≡◌, refl, sym, ap, ap₂, ◌∙◌, subst}
use mathlib.Core.List.{List, [], ◌∷◌, ◌++◌, append_assoc, append-nil}
use lib.ListN.{length, take, drop, get_or, length-append}
use Rattle.std.specs.List.{between}
use Rattle.std.proofs.lemmas.List.Edits.{get_or-between}
use lib.Dec.{lit<}
use mir.Syntax.{w8}
use mir.Val.{Fits}
use lib.Arith.{digits_div, digits_mod, digits_lt, lt-one}
use lib.Seq.{drop-cons, drop-drop, get_or_at, get_or-drop}
use Rattle.wire.specs.Numbers.{Bytes, number_at, digits, value_from, be, little_at, le}
use Rattle.wire.specs.Sequences.{All}

pub byte_pos : 0 < 256
byte_pos = lit< tt

-- ---- bytes

pub bytes-get_d : (s : List ℕ) (i : ℕ) → Bytes s → get_or s i 0 < 256
bytes-get_d [] i h = byte_pos
bytes-get_d (b ∷ bs) zero h = h.0
bytes-get_d (b ∷ bs) (suc i) h = bytes-get_d bs i h.1

pub get_d-bytes : (s : List ℕ) → ((i : ℕ) → get_or s i 0 < 256) → Bytes s
get_d-bytes [] h = tt
get_d-bytes (b ∷ bs) h = (h 0, get_d-bytes bs (λ i. h (suc i)))

-- by what the type of a slice of bytes says
pub bytes-fit : (s : List ℕ) → ((i : ℕ) → Fits w8 (get_or s i 0)) → Bytes s
bytes-fit s h = get_d-bytes s (λ i. (h i).fits)

pub bytes-append : (a b : List ℕ) → Bytes a → Bytes b → Bytes (a ++ b)
bytes-append [] b h k = k
bytes-append (x ∷ a) b h k = (h.0, bytes-append a b h.1 k)

pub bytes_drop : (n : ℕ) (s : List ℕ) → Bytes s → Bytes (drop n s)
bytes_drop zero s h = h
bytes_drop (suc n) [] h = tt
bytes_drop (suc n) (b ∷ bs) h = bytes_drop n bs h.1

pub bytes_take : (n : ℕ) (s : List ℕ) → Bytes s → Bytes (take n s)
bytes_take zero s h = tt
bytes_take (suc n) [] h = tt
bytes_take (suc n) (b ∷ bs) h = (h.0, bytes_take n bs h.1)

pub all_append : {A : Type 0} (P : A → Type 0) (a b : List A) → All P a → All P b → All P (a ++ b)
all_append P [] b h k = k
all_append P (x ∷ a) b h k = (h.0, all_append P a b h.1 k)

-- ---- digits to any base

pub length_digits : (base w n : ℕ) → length (digits base w n) ≡ w
unfolding digits
length_digits base zero n = refl
length_digits base (suc w) n =
    length-append (digits base w (n / base)) (n % base ∷ []) ∙ ap (λ (k : ℕ). k + 1) (length_digits base w (n / base)) ∙ add-one w

pub digits-small : (base w n : ℕ) → 0 < base → All (λ d. d < base) (digits base w n)
unfolding digits
digits-small base zero n h = tt
digits-small base (suc w) n h = all_append (λ d. d < base) (digits base w (n / base)) (n % base ∷ []) (digits-small base w (n / base) h) (mod-lt n h, tt)

value-snoc : (base n : ℕ) (ds : List ℕ) (d : ℕ) → value_from base n (ds ++ (d ∷ [])) ≡ value_from base n ds * base + d
unfolding value_from
value-snoc base n [] d = refl
value-snoc base n (x ∷ ds) d = value-snoc base (n * base + x) ds d

high_lt : (base w n : ℕ) → 0 < base → n < base ^ suc w → n / base < base ^ w
high_lt base w n pos h = (div-lt_iff_lt-mul pos).1 (subst (λ (k : ℕ). n < k) (pow-suc base w) h)

-- the digits of a number give it back
pub value-digits : (base w n : ℕ) → 0 < base → n < base ^ w → value_from base 0 (digits base w n) ≡ n
unfolding digits value_from
value-digits base zero n pos h = omega (arith, pow-zero base)
value-digits base (suc w) n pos h =
    value-snoc base 0 (digits base w (n / base)) (n % base)
    ∙ ap (λ (k : ℕ). k * base + n % base) (value-digits base w (n / base) pos (high_lt base w n pos h))
    ∙ div-add-mod' n base

digits_onto : (base : ℕ) → 0 < base → (w n : ℕ) (ds : List ℕ) → All (λ d. d < base) ds
    → digits base (length ds + w) (value_from base n ds) ≡ digits base w n ++ ds
unfolding digits value_from
digits_onto base pos w n [] h = ap (λ (k : ℕ). digits base k n) (zero-add w) ∙ sym (append-nil (digits base w n))
digits_onto base pos w n (d ∷ ds) h =
    ap (λ (k : ℕ). digits base k (value_from base (n * base + d) ds)) (suc-add (length ds) w ∙ sym (add-suc (length ds) w))
    ∙ digits_onto base pos (suc w) (n * base + d) ds h.1
    ∙ ap₂ (λ (a b : ℕ). (digits base w a ++ (b ∷ [])) ++ ds) (digits_div n h.0) (digits_mod n h.0)
    ∙ append_assoc (digits base w n) (d ∷ []) ds

-- the number that digits give has them
pub digits_value : (base : ℕ) (ds : List ℕ) → 0 < base → All (λ d. d < base) ds → digits base (length ds) (value_from base 0 ds) ≡ ds
unfolding digits
digits_value base ds pos h = ap (λ (k : ℕ). digits base k (value_from base 0 ds)) (sym (add-zero (length ds))) ∙ digits_onto base pos 0 0 ds h

value-below : (base n : ℕ) (ds : List ℕ) → All (λ d. d < base) ds → value_from base n ds < suc n * base ^ length ds
unfolding value_from
value-below base n [] h = subst (λ (k : ℕ). n < k) (sym (ap (λ (p : ℕ). suc n * p) (pow-zero base) ∙ mul-one (suc n))) (le_refl (suc n))
value-below base n (d ∷ ds) h =
    let step : suc (n * base + d) ≤ suc n * base = omega (arith, h.0) in
    subst (λ (k : ℕ). value_from base (n * base + d) ds < k) (mul_assoc (suc n) base (base ^ length ds) ∙ ap (λ (k : ℕ). suc n * k) (mul_comm base _ ∙ sym (pow-suc base (length ds))))
    (le_trans (value-below base (n * base + d) ds h.1) (mul-le-mul_right (base ^ length ds) step))

pub value-lt : (base : ℕ) (ds : List ℕ) → All (λ d. d < base) ds → value_from base 0 ds < base ^ length ds
value-lt base ds h = omega (arith, value-below base 0 ds h)

-- ---- big-endian

pub one_byte : (b : ℕ) → b < 256 → be 1 b ≡ b ∷ []
unfolding digits
one_byte b h = ap (λ (x : ℕ). x ∷ []) (mod-eq_of_lt h)

pub bytes-be : (w n : ℕ) → Bytes (be w n)
unfolding digits
bytes-be zero n = tt
bytes-be (suc w) n = bytes-append (be w (n / 256)) (n % 256 ∷ []) (bytes-be w (n / 256)) (mod-lt n byte_pos, tt)

pub number_lt : (s : List ℕ) (at w : ℕ) → Bytes s → number_at s at w < 256 ^ w
unfolding number_at
number_lt s at zero h = lit< tt
number_lt s at (suc w) h =
    subst (λ (n : ℕ). number_at s at w * 256 + get_or s (at + w) 0 < n) (sym (pow-suc 256 w)) (digits_lt (number_lt s at w h) (bytes-get_d s (at + w) h))

pub number-below : (s : List ℕ) (at w most : ℕ) → Bytes s → w ≤ most → number_at s at w < 256 ^ most
number-below s at w most b h = le_trans (number_lt s at w b) (pow-le-pow_right byte_pos h)

-- what was written is read
pub number-be : (w n : ℕ) (s : List ℕ) (at : ℕ) (rest : List ℕ) → n < 256 ^ w → drop at s ≡ be w n ++ rest → number_at s at w ≡ n
unfolding number_at digits
number-be zero n s at rest h e = sym (lt-one h)
number-be (suc w) n s at rest h e =
    let here : drop at s ≡ be w (n / 256) ++ n % 256 ∷ rest = e ∙ append_assoc (be w (n / 256)) (n % 256 ∷ []) rest in
    let last : get_or s (at + w) 0 ≡ n % 256 =
    sym (get_or-drop at s w 0) ∙ ap (λ (l : List ℕ). get_or l w 0) here ∙ get_or_at (be w (n / 256)) (n % 256) rest 0 w (length_digits 256 w (n / 256))
    in
    ap₂ (λ (a b : ℕ). a * 256 + b) (number-be w (n / 256) s at (n % 256 ∷ rest) (high_lt 256 w n byte_pos h) here) last ∙ div-add-mod' n 256

-- what was read is what stands there
pub be-number : (w : ℕ) (s : List ℕ) (at : ℕ) → Bytes s → at + w ≤ length s → drop at s ≡ be w (number_at s at w) ++ drop (at + w) s
unfolding number_at digits
be-number zero s at h f = ap (λ (n : ℕ). drop n s) (sym (add-zero at))
be-number (suc w) s at h f =
    let b : ℕ = get_or s (at + w) 0 in
    let small : b < 256 = bytes-get_d s (at + w) h in
    let inside : at + w < length s = omega arith in
    let rest : drop (at + w) s ≡ b ∷ drop (at + suc w) s = drop-cons s (at + w) 0 inside ∙ ap (λ (n : ℕ). b ∷ drop n s) (sym (add-suc at w)) in
    be-number w s at h (omega arith)
    ∙ ap₂ (λ (n : ℕ) (l : List ℕ). be w n ++ l) (sym (digits_div (number_at s at w) small)) rest
    ∙ ap (λ (c : ℕ). be w ((number_at s at w * 256 + b) / 256) ++ c ∷ drop (at + suc w) s) (sym (digits_mod (number_at s at w) small))
    ∙ sym (append_assoc (be w ((number_at s at w * 256 + b) / 256)) ((number_at s at w * 256 + b) % 256 ∷ []) (drop (at + suc w) s))

-- ---- little-endian

pub little-lt : (s : List ℕ) (at w : ℕ) → Bytes s → little_at s at w < 256 ^ w
unfolding little_at
little-lt s at zero h = lit< tt
little-lt s at (suc w) h = omega (arith, pow-suc 256 w, little-lt s (at + 1) w h, bytes-get_d s at h)

pub little-le : (w n : ℕ) (s : List ℕ) (at : ℕ) (rest : List ℕ) → n < 256 ^ w → drop at s ≡ le w n ++ rest → little_at s at w ≡ n
unfolding little_at le
little-le zero n s at rest h e = sym (lt-one h)
little-le (suc w) n s at rest h e =
    let first : get_or s at 0 ≡ n % 256 = ap (λ (k : ℕ). get_or s k 0) (sym (add-zero at)) ∙ sym (get_or-drop at s 0 0) ∙ ap (λ (l : List ℕ). get_or l 0 0) e in
    let more : drop (at + 1) s ≡ le w (n / 256) ++ rest = sym (drop-drop 1 at s) ∙ ap (λ (l : List ℕ). drop 1 l) e in
    ap₂ (λ (a b : ℕ). a + 256 * b) first (little-le w (n / 256) s (at + 1) rest (high_lt 256 w n byte_pos h) more) ∙ omega (arith, div-add-mod' n 256)

-- ---- a number in a part of the list

pub number-part : (s : List ℕ) (at w v : ℕ) → v ≤ w → number_at (between at (at + w) s) 0 v ≡ number_at s at v
unfolding number_at
number-part s at w zero h = refl
number-part s at w (suc v) h =
    ap₂ (λ (a b : ℕ). a * 256 + b) (number-part s at w v (omega arith)) (rw zero-add (get_or-between s at (at + w) v 0 (omega arith)))

pub little-part : (s : List ℕ) (at w i v : ℕ) → i + v ≤ w → little_at (between at (at + w) s) i v ≡ little_at s (at + i) v
unfolding little_at
little-part s at w i zero h = refl
little-part s at w i (suc v) h =
    let place : at + (i + 1) ≡ at + i + 1 = omega arith in
    ap₂ (λ (a b : ℕ). a + 256 * b) (get_or-between s at (at + w) i 0 (omega arith)) (little-part s at w (i + 1) v (omega arith) ∙ ap (λ (j : ℕ). little_at s j v) place)
