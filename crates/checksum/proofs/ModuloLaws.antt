-- Shifts, and numbers modulo x^15 + x + 1: that it is a factor of the polynomial is computed once, and squared.
use Prim.Native.Nat.{ℕ, zero, suc, ◌+◌, ◌*◌, ◌/◌, ◌%◌, ◌^◌, ◌<◌, ◌≤◌}
use native.Mathlib.Nat.{zero-add, add_comm, suc-add, mod-lt, lt_of_lt_of_le}
use native.Mathlib.Omega.{arith}
use mathlib.Core.Path.{◌≡◌, refl, sym, ap, ap₂, ◌∙◌, subst}
use mathlib.Core.List.{List, [], ◌∷◌}
use lib.ListN.{get_or, drop}
use lib.Pow.{pow_mono, pow_pos, shr_lt, split}
use lib.Bits.{bit_xor, xor_comm, xor_zero_r, xor_self, xor_lt, xor_shifted}
use Rattle.checksum.specs.Crc.{shift, shifts}
use Rattle.checksum.specs.Fold.{raised, Alike}
use Rattle.checksum.proofs.XorLaws.{xor-swap, xor-cancel}
use Rattle.checksum.proofs.CrcLaws.{shift-below, shift-lt, shift-linear, shifts-linear, shifts-up}

-- ---- shifts

pub shifts-add : (j k n : ℕ) → shifts (j + k) n ≡ shifts k (shifts j n)
unfolding shifts
shifts-add zero k n = ap (λ (m : ℕ). shifts m n) (zero-add k)
shifts-add (suc j) k n = ap (λ (m : ℕ). shifts m n) (suc-add j k) ∙ shifts-add j k (shift n)

pub shifts-comm : (j k n : ℕ) → shifts j (shifts k n) ≡ shifts k (shifts j n)
shifts-comm j k n = sym (shifts-add k j n) ∙ ap (λ (m : ℕ). shifts m n) (add_comm k j) ∙ shifts-add j k n

-- the high bits go down, the others are shifted out
pub shifts-split : (k n : ℕ) → shifts k n ≡ bit_xor (n / 2 ^ k) (shifts k (n % 2 ^ k))
shifts-split k n =
    let high : ℕ = n / 2 ^ k in
    let low : ℕ = n % 2 ^ k in
    let parts : bit_xor (high * 2 ^ k) low ≡ n = xor_shifted high k low (mod-lt n (pow_pos k)) ∙ split n k in
    ap (shifts k) (sym parts) ∙ shifts-linear k (high * 2 ^ k) low ∙ ap (λ (m : ℕ). bit_xor m (shifts k low)) (shifts-up k high)

-- a number of 16 bits more than are shifted out
pub shifts-below : (k n : ℕ) → n < 2 ^ (16 + k) → shifts k n < 65536
unfolding shifts
shifts-below zero n h = h
shifts-below (suc k) n h = shifts-below k (shift n) (shift-below k n (shr_lt (16 + k) 1 (subst (λ (m : ℕ). n < 2 ^ m) (omega arith) h)))

pub shifts-word : (w n : ℕ) → n < 2 ^ w → shifts w n < 65536
shifts-word w n h =
    let more : w ≤ 16 + w = omega arith in
    shifts-below w n (lt_of_lt_of_le h (pow_mono more))

-- ---- modulo x^15 + x + 1

pub raised-linear : (a b : ℕ) → raised (bit_xor a b) ≡ bit_xor (raised a) (raised b)
unfolding raised
raised-linear a b = ap (bit_xor (bit_xor a b)) (shift-linear a b) ∙ xor-swap a b (shift a) (shift b)

pub raised-shifts : (k n : ℕ) → raised (shifts k n) ≡ shifts k (raised n)
unfolding raised shifts
raised-shifts k n = ap (bit_xor (shifts k n)) (shifts-comm 1 k n) ∙ sym (shifts-linear k n (shift n))

pub raised_lt : (n : ℕ) → n < 65536 → raised n < 65536
unfolding raised
raised_lt n h = xor_lt 16 n (shift n) h (shift-lt n h)

pub alike-shifts : (k m n : ℕ) → Alike m n → Alike (shifts k m) (shifts k n)
alike-shifts k m n e = raised-shifts k m ∙ ap (shifts k) e ∙ sym (raised-shifts k n)

pub alike-xor : (a b c d : ℕ) → Alike a b → Alike c d → Alike (bit_xor a c) (bit_xor b d)
alike-xor a b c d e f = raised-linear a c ∙ ap₂ bit_xor e f ∙ sym (raised-linear b d)

-- numbers that are alike cancel each other
pub alike-cancel : (a b c d : ℕ) → Alike a b → Alike c d → Alike (bit_xor a (bit_xor c d)) b
alike-cancel a b c d e f =
    let none : raised (bit_xor c d) ≡ 0 = raised-linear c d ∙ ap (bit_xor (raised c)) (sym f) ∙ xor_self (raised c) in
    raised-linear a (bit_xor c d) ∙ ap₂ bit_xor e none ∙ xor_zero_r (raised b)

-- ---- linear functions

abbrev pub Linear : (ℕ → ℕ) → Type 0
Linear f = (a b : ℕ) → f (bit_xor a b) ≡ bit_xor (f a) (f b)

-- the values at 2 ^ k and all powers below
unfoldable pub at_powers : (ℕ → ℕ) → ℕ → List ℕ
at_powers f zero = []
at_powers f (suc k) = f (2 ^ k) ∷ at_powers f k

at_zero : (f g : ℕ → ℕ) → Linear f → Linear g → (n : ℕ) → n ≡ 0 → f n ≡ g n
at_zero f g p q n e = ap f e ∙ p 0 0 ∙ xor_self (f 0) ∙ sym (q 0 0 ∙ xor_self (g 0)) ∙ ap g (sym e)

top_bit : (f g : ℕ → ℕ) → Linear f → Linear g → (b m : ℕ) → b < 2 → f m ≡ g m → f (b * m) ≡ g (b * m)
top_bit f g p q zero m h e = at_zero f g p q (0 * m) (omega arith)
top_bit f g p q (suc zero) m h e =
    let one : 1 * m ≡ m = omega arith in
    ap f one ∙ e ∙ ap g (sym one)
top_bit f g p q (suc (suc b)) m h e = absurd (omega arith)

-- those that agree on the powers of two agree
pub by-powers : (f g : ℕ → ℕ) → Linear f → Linear g → (k : ℕ) → at_powers f k ≡ at_powers g k → (n : ℕ) → n < 2 ^ k → f n ≡ g n
unfolding at_powers
by-powers f g p q zero e n h = at_zero f g p q n (omega arith)
by-powers f g p q (suc k) e n h =
    let b : ℕ = n / 2 ^ k in
    let low : ℕ = n % 2 ^ k in
    let bit : b < 2 = shr_lt 1 k (subst (λ (m : ℕ). n < 2 ^ m) (omega arith) h) in
    let parts : n ≡ bit_xor (b * 2 ^ k) low = sym (xor_shifted b k low (mod-lt n (pow_pos k)) ∙ split n k) in
    let high : f (b * 2 ^ k) ≡ g (b * 2 ^ k) = top_bit f g p q b (2 ^ k) bit (ap (λ (l : List ℕ). get_or l 0 0) e) in
    let rest : f low ≡ g low = by-powers f g p q k (ap (drop 1) e) low (mod-lt n (pow_pos k)) in
    ap f parts ∙ p (b * 2 ^ k) low ∙ ap₂ bit_xor high rest ∙ sym (q (b * 2 ^ k) low) ∙ ap g (sym parts)

-- ---- the factor

-- times x^k + 1
unfoldable pub beside : ℕ → ℕ → ℕ
beside k n = bit_xor (shifts k n) n

pub beside-linear : (k : ℕ) → Linear (beside k)
unfolding beside
beside-linear k a b = ap (λ (n : ℕ). bit_xor n (bit_xor a b)) (shifts-linear k a b) ∙ xor-swap (shifts k a) (shifts k b) a b

pub beside-shifts : (j k n : ℕ) → shifts j (beside k n) ≡ beside k (shifts j n)
unfolding beside
beside-shifts j k n = shifts-linear j (shifts k n) n ∙ ap (λ (m : ℕ). bit_xor m (shifts j n)) (shifts-comm j k n)

beside-alike : (k m n : ℕ) → Alike m n → Alike (beside k m) (beside k n)
unfolding beside
beside-alike k m n e = alike-xor (shifts k m) (shifts k n) m n (alike-shifts k m n e) e

-- squared: the terms in the middle are equal
beside-twice : (k n : ℕ) → beside k (beside k n) ≡ beside (2 * k) n
unfolding beside
beside-twice k n =
    let twice : k + k ≡ 2 * k = omega arith in
    ap (λ (m : ℕ). bit_xor m (bit_xor (shifts k n) n)) (shifts-linear k (shifts k n) n)
    ∙ ap (bit_xor (bit_xor (shifts k (shifts k n)) (shifts k n))) (xor_comm (shifts k n) n)
    ∙ xor-cancel (shifts k (shifts k n)) n (shifts k n)
    ∙ ap (λ (m : ℕ). bit_xor m n) (sym (shifts-add k k n) ∙ ap (λ (m : ℕ). shifts m n) twice)

-- x^15k = x^k + 1
abbrev pub Factor : ℕ → Type 0
Factor k = (n : ℕ) → n < 65536 → Alike (shifts (15 * k) n) (beside k n)

computed : at_powers (λ (n : ℕ). raised (shifts 15 n)) 16 ≡ at_powers (λ (n : ℕ). raised (beside 1 n)) 16
unfolding at_powers raised beside shifts
computed = refl

pub factor-1 : Factor 1
factor-1 =
    by-powers (λ (n : ℕ). raised (shifts 15 n)) (λ (n : ℕ). raised (beside 1 n))
    (λ a b. ap raised (shifts-linear 15 a b) ∙ raised-linear (shifts 15 a) (shifts 15 b))
    (λ a b. ap raised (beside-linear 1 a b) ∙ raised-linear (beside 1 a) (beside 1 b))
    16 computed

squared : (k : ℕ) → Factor k → Factor (2 * k)
squared k p n h =
    let w : ℕ = 15 * k in
    let width : w + w ≡ 15 * (2 * k) = omega arith in
    ap (λ (m : ℕ). raised (shifts m n)) (sym width)
    ∙ ap raised (shifts-add w w n)
    ∙ alike-shifts w (shifts w n) (beside k n) (p n h)
    ∙ ap raised (beside-shifts w k n)
    ∙ beside-alike k (shifts w n) (beside k n) (p n h)
    ∙ ap raised (beside-twice k n)

pub factor-2 : Factor 2
factor-2 = squared 1 factor-1

pub factor-4 : Factor 4
factor-4 = squared 2 factor-2

pub factor-8 : Factor 8
factor-8 = squared 4 factor-4

pub factor-64 : Factor 64
factor-64 = squared 32 (squared 16 (squared 8 factor-8))
