-- Neighbouring numbers joined by a shift and an or, at any widths: big-endian, then little-endian.
use Prim.Native.Nat.{ℕ, zero, suc, ◌+◌, ◌*◌, ◌%◌, ◌^◌, ◌≤◌, ◌<◌}
use native.Mathlib.Nat.{add-zero, zero-add, add-suc, add_assoc, suc-add, mul-one, mul_assoc, pow-suc}
use native.Mathlib.Omega.{arith}
use mathlib.Core.Path.{◌≡◌, refl, sym, ap, ap₂, ◌∙◌, subst}
use mathlib.Core.List.{List}
use lib.ListN.{get_or}
use lib.Pow.{pow-add, shl_exact}
use lib.Bits.{bit_or, or_shifted, or_shifted_r}
use Rattle.wire.specs.Numbers.{Bytes, number_at, little_at}
use Rattle.wire.proofs.Widths.{number_lt, little-lt}

pub number-one : (s : List ℕ) (at : ℕ) → number_at s at 1 ≡ get_or s at 0
unfolding number_at
number-one s at = simp (zero-add, add-zero)

bits_of : (w : ℕ) → 256 ^ w ≡ 2 ^ (8 * w)
bits_of zero = refl
bits_of (suc w) = pow-suc 256 w ∙ ap (λ (n : ℕ). n * 256) (bits_of w) ∙ sym (pow-add 2 (8 * w) 8) ∙ ap (λ (k : ℕ). 2 ^ k) (omega arith)

pub number-add : (s : List ℕ) (at v w : ℕ) → number_at s at (v + w) ≡ number_at s at v * 256 ^ w + number_at s (at + v) w
unfolding number_at
number-add s at v zero = simp (add-zero, mul-one)
number-add s at v (suc w) = rw (add-suc, number-add s at v w, ← add_assoc at v w, pow-suc) (omega arith)

-- the shift and the or of the machine, in `b` bits
pub number-or : (s : List ℕ) (at v w b : ℕ) → Bytes s → 8 * v + 8 * w ≤ b
    → bit_or (number_at s at v * 2 ^ (8 * w) % 2 ^ b) (number_at s (at + v) w) ≡ number_at s at (v + w)
number-or s at v w b h f =
    let below : (k n : ℕ) → number_at s n k < 2 ^ (8 * k) = λ k n. subst (λ (m : ℕ). number_at s n k < m) (bits_of k) (number_lt s n k h) in
    ap (λ (n : ℕ). bit_or n (number_at s (at + v) w)) (shl_exact (8 * v) (8 * w) b (below v at) f)
    ∙ or_shifted (number_at s at v) (8 * w) (number_at s (at + v) w) (below w (at + v))
    ∙ ap (λ (n : ℕ). number_at s at v * n + number_at s (at + v) w) (sym (bits_of w))
    ∙ sym (number-add s at v w)

pub little-bits : (s : List ℕ) (at w : ℕ) → Bytes s → little_at s at w < 2 ^ (8 * w)
little-bits s at w h = subst (λ (m : ℕ). little_at s at w < m) (bits_of w) (little-lt s at w h)

pub little-add : (s : List ℕ) (at v w : ℕ) → little_at s at (v + w) ≡ little_at s (at + v) w * 2 ^ (8 * v) + little_at s at v
unfolding little_at
little-add s at zero w =
    ap₂ (little_at s) (sym (add-zero at)) (zero-add w) ∙ sym (add-zero (little_at s (at + 0) w * 1) ∙ mul-one (little_at s (at + 0) w))
little-add s at (suc v) w =
    let high : ℕ = little_at s (at + suc v) w in
    let place : at + 1 + v ≡ at + suc v = omega arith in
    let width : 8 * v + 8 ≡ 8 * suc v = omega arith in
    let power : high * 2 ^ (8 * v) * 256 ≡ high * 2 ^ (8 * suc v) = mul_assoc high (2 ^ (8 * v)) 256 ∙ ap (λ (n : ℕ). high * n) (sym (pow-add 2 (8 * v) 8) ∙ ap (λ (k : ℕ). 2 ^ k) width) in
    let rest : little_at s (at + 1) (v + w) ≡ high * 2 ^ (8 * v) + little_at s (at + 1) v =
    little-add s (at + 1) v w ∙ ap (λ (n : ℕ). little_at s n w * 2 ^ (8 * v) + little_at s (at + 1) v) place in
    ap (little_at s at) (suc-add v w) ∙ omega (arith, rest, power)

pub little-one : (s : List ℕ) (at : ℕ) → little_at s at 1 ≡ get_or s at 0
unfolding little_at
little-one s at = add-zero (get_or s at 0)

-- the shift and the or of the machine, in `b` bits
pub little-or : (s : List ℕ) (at v w b : ℕ) → Bytes s → 8 * v + 8 * w ≤ b
    → bit_or (little_at s at v) (little_at s (at + v) w * 2 ^ (8 * v) % 2 ^ b) ≡ little_at s at (v + w)
little-or s at v w b h f =
    ap (bit_or (little_at s at v)) (shl_exact (8 * w) (8 * v) b (little-bits s (at + v) w h) (omega arith))
    ∙ or_shifted_r (little_at s (at + v) w) (8 * v) (little_at s at v) (little-bits s at v h)
    ∙ sym (little-add s at v w)
