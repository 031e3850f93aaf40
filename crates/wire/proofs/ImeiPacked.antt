-- A packed IMEI is read exactly where one stands.
use Prim.Native.Nat.{ℕ, zero, suc, ◌+◌, ◌-◌, ◌*◌, ◌/◌, ◌%◌, ◌^◌, ◌≤◌, ◌<◌}
use native.Mathlib.Nat.{lt_of_mul-lt-mul_right, pow-suc, pow-zero, mul-one, add-zero}
use native.Mathlib.Omega.{arith}
use mathlib.Core.Path.{◌≡◌, refl, sym, ap, ◌∙◌, subst, subst₂}
use mathlib.Core.Logic.{◌↔◌}
use mathlib.Core.Bool.{false}
use mathlib.Core.List.{List, [], ◌∷◌}
use lib.ListN.{length}
use lib.Dec.{leb, lit<}
use lib.Arith.{digits_lt}
use borrow.Author.Tests.{le-leb, leb-true}
use Rattle.wire.specs.Numbers.{Bytes, digits, value_from, pick}
use Rattle.wire.specs.Sequences.{joined, All}
use Rattle.wire.specs.Reading.{got, pure, here, require, number, repeat}
use Rattle.wire.specs.Imei.{packed_pair, packed, pair_up_to, read_packed}
use Rattle.wire.proofs.Widths.{one_byte, length_digits, digits-small, value-digits, digits_value, value-lt}
use Rattle.wire.proofs.Placed.{Between, between-nil, between_join, between_split, between-moved, between-bytes}
use Rattle.wire.proofs.Accepting.{both_true}
use Rattle.wire.proofs.Exactness.{Meets, meets-then, meets-next, meets-pure, meets-here, meets-require, then-got, here-got, require-got, Exact, number-exact, repeat-sound, repeat-complete}

-- two digits in a byte, the first at most `most`
pub pair-exact : (most : ℕ) → most ≤ 9 → Exact (pair_up_to most) packed_pair (λ d. d < suc most * 10)
unfolding pair_up_to pure
pair-exact most small =
    record {
      sound = λ s at h i.
          meets-then here _ s at (meets-here s at) (λ start n₀ k₀.
          meets-then (number 1) _ s n₀ ((number-exact 1).sound s n₀ h (omega (arith, k₀.1))) (λ b n₁ k₁.
          meets-next (require (pick (leb (b / 16) most) (leb (b % 16) 9) false) 15 start) _ s n₁ (meets-require _ _ _ s n₁) (λ u n₂ k₂.
          let tests = both_true (leb (b / 16) most) (leb (b % 16) 9) k₂.0 in
          let high : b / 16 ≤ most = leb-true (b / 16) most tests.0 in
          let low : b % 16 ≤ 9 = leb-true (b % 16) 9 tests.1 in
          meets-pure _ s n₂ (between-moved k₀.1 (sym k₂.1) (between-bytes (one_byte b k₁.1 ∙ ap (λ (x : ℕ). x ∷ []) (omega arith)) k₁.0), omega arith))));
      complete = λ s at d next h f.
          let b = d / 10 * 16 + d % 10 in
          let high : b / 16 ≤ most = omega arith in
          let low : b % 16 ≤ 9 = omega arith in
          here-got _ s at
          ∙ then-got (number 1) _ s at ((number-exact 1).complete s at b next (omega arith) (between-bytes (sym (one_byte b (omega arith))) f))
          ∙ require-got (pick (leb (b / 16) most) (leb (b % 16) 9) false) 15 at _ s next (simp (le-leb (b / 16) most high, le-leb (b % 16) 9 low))
          ∙ ap (λ (x : ℕ). got x next) (omega arith);
    }

-- the number that comes before counts by the power of the base
value-first : (base n : ℕ) (ds : List ℕ) → value_from base n ds ≡ n * base ^ length ds + value_from base 0 ds
unfolding value_from
value-first base n [] = rw pow-zero (sym (add-zero _ ∙ mul-one n))
value-first base n (d ∷ ds) =
    let before : n * base ^ suc (length ds) ≡ n * (base ^ length ds * base) = ap (λ (k : ℕ). n * k) (pow-suc base (length ds)) in
    value-first base (n * base + d) ds ∙ (omega arith) ∙ ap (λ (x : ℕ). n * base ^ suc (length ds) + x) (sym (value-first base (0 * base + d) ds))

packed-range : (w : ℕ) → 10 ^ (2 * suc w - 1) ≡ 10 * 100 ^ w
packed-range zero = refl
packed-range (suc w) =
    let size : 2 * suc (suc w) - 1 ≡ suc (suc (2 * suc w - 1)) = omega arith in
    ap (λ (k : ℕ). 10 ^ k) size ∙ omega (arith, pow-suc 10 (suc (2 * suc w - 1)), pow-suc 10 (2 * suc w - 1), pow-suc 100 w, packed-range w)

-- the first of the digits is below `most` exactly if the number is below so many times the power
value-cons-lt : (base most d : ℕ) (ds : List ℕ) → All (λ x. x < base) ds → (d < most) ↔ (value_from base 0 (d ∷ ds) < most * base ^ length ds)
unfolding value_from
value-cons-lt base most d ds h =
    let rest = value-lt base ds h in
    let split = value-first base (0 * base + d) ds in (
      λ k. subst (λ (x : ℕ). x < most * base ^ length ds) (sym split) (digits_lt (omega arith) rest),
      λ k. lt_of_mul-lt-mul_right (base ^ length ds) (omega (arith, split)),
    )

length_pairs : (ds : List ℕ) → length (joined packed_pair ds) ≡ length ds
length_pairs [] = refl
length_pairs (d ∷ ds) = ap suc (length_pairs ds)

pub length-packed : (w imei : ℕ) → length (packed w imei) ≡ w
unfolding packed
length-packed w imei = length_pairs (digits 100 w imei) ∙ length_digits 100 w imei

packed_lt : (w imei : ℕ) → imei < 10 ^ (2 * w - 1) → imei < 100 ^ w
packed_lt zero imei h = h
packed_lt (suc w) imei h = omega (arith, packed-range w, pow-suc 100 w)

packed-complete : (l : List ℕ) (s : List ℕ) (at next : ℕ) → All (λ d. d < 100) l → value_from 100 0 l < 10 ^ (2 * length l - 1)
    → Between s at (joined packed_pair l) next → read_packed (length l) s at ≡ got (value_from 100 0 l) next
unfolding read_packed value_from pure
packed-complete [] s at next h small f = ap (got 0) (sym (f.size ∙ add-zero at))
packed-complete (d ∷ ds) s at next h small f =
    let parts = between_split (packed_pair d) f in
    let first : d < 10 = (value-cons-lt 100 10 d ds h.1).1 (subst (λ (x : ℕ). value_from 100 0 (d ∷ ds) < x) (packed-range (length ds)) small) in
    then-got (pair_up_to 0) _ s at ((pair-exact 0 (omega arith)).complete s at d _ first parts.0)
    ∙ then-got (repeat (length ds) (pair_up_to 9)) _ s _ (repeat-complete (pair-exact 9 (omega arith)) ds s _ next h.1 parts.1)

packed-sound : (w : ℕ) (s : List ℕ) (at : ℕ) → Bytes s → at ≤ length s
    → Meets (read_packed w s at) (λ imei next. Between s at (packed w imei) next × (imei < 10 ^ (2 * w - 1)))
unfolding read_packed packed digits
packed-sound zero s at h i = meets-pure 0 s at (between-nil s at i, omega arith)
packed-sound (suc w) s at h i =
    meets-then (pair_up_to 0) _ s at ((pair-exact 0 (omega arith)).sound s at h i) (λ d mid k.
    meets-then (repeat w (pair_up_to 9)) _ s mid (repeat-sound (pair-exact 9 (omega arith)) w s mid h k.0.inside) (λ ds next r.
    let n = value_from 100 0 (d ∷ ds) in
    let small : d < 10 = k.1 in
    let written : digits 100 (suc w) n ≡ d ∷ ds =
    ap (λ (x : ℕ). digits 100 (suc x) n) (sym r.1.0) ∙ digits_value 100 (d ∷ ds) (lit< tt) (omega arith, r.1.1)
    in
    let range : n < 10 * 100 ^ w = subst (λ (x : ℕ). n < 10 * 100 ^ x) r.1.0 ((value-cons-lt 100 10 d ds r.1.1).0 small) in
    meets-pure _ s next (between-bytes (ap (joined packed_pair) (sym written)) (between_join k.0 r.0), subst (λ (x : ℕ). n < x) (sym (packed-range w)) range)))

-- an IMEI in `w` bytes
pub packed-exact : (w : ℕ) → Exact (read_packed w) (packed w) (λ imei. imei < 10 ^ (2 * w - 1))
unfolding packed
packed-exact w =
    record {
      sound = packed-sound w;
      complete = λ s at imei next h f.
          let l = digits 100 w imei in
          let long : length l ≡ w = length_digits 100 w imei in
          let same : value_from 100 0 l ≡ imei = value-digits 100 w imei (lit< tt) (packed_lt w imei h) in
          let small : value_from 100 0 l < 10 ^ (2 * length l - 1) = subst₂ (λ (x k : ℕ). x < 10 ^ (2 * k - 1)) (sym same) (sym long) h in
          ap (λ (k : ℕ). read_packed k s at) (sym long)
          ∙ packed-complete l s at next (digits-small 100 w imei (lit< tt)) small f
          ∙ ap (λ (x : ℕ). got x next) same;
    }
