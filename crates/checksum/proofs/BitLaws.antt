-- Counting bits: lists, numbers as bytes, and parity.
use Prim.Native.Nat.{ℕ, zero, suc, ◌+◌, ◌*◌, ◌/◌, ◌%◌, ◌^◌, ◌<◌}
use native.Mathlib.Nat.{suc_inj, div-one, div-div-eq-div-mul, add-zero, zero-add, add_comm, add_assoc, suc-add, div-eq_of_lt, div-add-mod', lt_of_le_of_lt}
use native.Mathlib.Numerals.{add-one}
use native.Mathlib.Omega.{arith}
use mathlib.Core.Path.{◌≡◌, refl, sym, ap, ap₂, ◌∙◌}
use mathlib.Core.List.{List, [], ◌∷◌, ◌++◌}
use lib.ListN.{length}
use lib.Dec.{lit<}
use lib.Pow.{shr_le}
use lib.Bits.{bit_xor, xor_lt, block_half, block_odd}
use Rattle.wire.specs.Numbers.{Bytes, digits, be}
use Rattle.checksum.specs.Crc.{feedback, shift, shifts, absorb, crc_from, crc}
use Rattle.checksum.specs.Bits.{ones, ones_of, differing}
use Rattle.checksum.proofs.XorLaws.{xor-half, xor-odd}
use Rattle.checksum.proofs.CrcLaws.{crc_from-nil, crc_from-cons, feedback-lt, shift-below, absorb-lt, crc-lt}

-- ---- of a number

pub ones-zero : (k : ℕ) → ones k 0 ≡ 0
unfolding ones
ones-zero zero = refl
ones-zero (suc k) = zero-add (ones k 0) ∙ ones-zero k

pub ones-add : (j k n : ℕ) → ones (j + k) n ≡ ones j n + ones k (n / 2 ^ j)
unfolding ones
ones-add zero k n = simp (zero-add, div-one)
ones-add (suc j) k n =
    ap (λ (m : ℕ). ones m n) (suc-add j k)
    ∙ ap (λ (m : ℕ). n % 2 + m) (ones-add j k (n / 2))
    ∙ sym (add_assoc (n % 2) (ones j (n / 2)) (ones k (n / 2 / 2 ^ j)))
    ∙ ap (λ (m : ℕ). ones (suc j) n + ones k m) (div-div-eq-div-mul n 2 (2 ^ j) ∙ ap (λ (m : ℕ). n / m) (omega arith))

-- no bits above the highest
pub ones-more : (j k n : ℕ) → n < 2 ^ j → ones (j + k) n ≡ ones j n
ones-more j k n h = ones-add j k n ∙ ap (λ (m : ℕ). ones j n + ones k m) (div-eq_of_lt h) ∙ ap (λ (m : ℕ). ones j n + m) (ones-zero k) ∙ add-zero (ones j n)

ones_half : (k n : ℕ) → n < 2 ^ k → ones k n ≡ n % 2 + ones k (n / 2)
unfolding ones
ones_half k n h = sym (ones-more k 1 n h) ∙ ap (λ (m : ℕ). ones m n) (add-one k)

pub ones_low : (k a r : ℕ) → ones k (a * 2 ^ k + r) ≡ ones k r
unfolding ones
ones_low zero a r = refl
ones_low (suc k) a r = ap₂ (λ (b m : ℕ). b + ones k m) (block_odd a k r) (block_half a k r) ∙ ap (λ (m : ℕ). r % 2 + m) (ones_low k a (r / 2))

sum-parity : (x y a b c d : ℕ) → x % 2 ≡ (a + b) % 2 → y % 2 ≡ (c + d) % 2 → (x + y) % 2 ≡ (a + c + (b + d)) % 2
sum-parity x y a b c d h k = omega arith

pub ones-xor : (k a b : ℕ) → ones k (bit_xor a b) % 2 ≡ (ones k a + ones k b) % 2
unfolding ones
ones-xor zero a b = refl
ones-xor (suc k) a b =
    sum-parity (bit_xor a b % 2) (ones k (bit_xor a b / 2)) (a % 2) (b % 2) (ones k (a / 2)) (ones k (b / 2)) (omega (arith, xor-odd a b))
    (ap (λ (n : ℕ). ones k n % 2) (xor-half a b) ∙ ones-xor k (a / 2) (b / 2))

-- ---- of bytes

pub ones_of-append : (a b : List ℕ) → ones_of (a ++ b) ≡ ones_of a + ones_of b
unfolding ones_of
ones_of-append [] b = sym (zero-add (ones_of b))
ones_of-append (x ∷ a) b = ap (λ (n : ℕ). ones 8 x + n) (ones_of-append a b) ∙ sym (add_assoc (ones 8 x) (ones_of a) (ones_of b))

pub ones-be : (w n : ℕ) → ones_of (be w n) ≡ ones (8 * w) n
unfolding ones_of digits
ones-be zero n = refl
ones-be (suc w) n =
    let low : ones 8 (n % 256) ≡ ones 8 n = sym (ones_low 8 (n / 256) (n % 256)) ∙ ap (ones 8) (div-add-mod' n 256) in
    let width : 8 + 8 * w ≡ 8 * suc w = omega arith in
    ones_of-append (be w (n / 256)) (n % 256 ∷ [])
    ∙ ap₂ (λ (a b : ℕ). a + b) (ones-be w (n / 256)) (add-zero (ones 8 (n % 256)) ∙ low)
    ∙ add_comm (ones (8 * w) (n / 256)) (ones 8 n)
    ∙ sym (ones-add 8 (8 * w) n)
    ∙ ap (λ (m : ℕ). ones m n) width

pub differing-parity : (p q : List ℕ) → length p ≡ length q → differing p q % 2 ≡ (ones_of p + ones_of q) % 2
unfolding ones_of differing
differing-parity [] [] n = refl
differing-parity [] (y ∷ q) n = absurd (omega arith)
differing-parity (x ∷ p) [] n = absurd (omega arith)
differing-parity (x ∷ p) (y ∷ q) n =
    sum-parity (ones 8 (bit_xor x y)) (differing p q) (ones 8 x) (ones 8 y) (ones_of p) (ones_of q) (ones-xor 8 x y) (differing-parity p q (suc_inj n))

-- ---- of the CRC

-- the polynomial has an odd number of bits
feedback-parity : (b : ℕ) → b < 2 → ones 16 (feedback b) % 2 ≡ b
unfolding feedback ones
feedback-parity zero h = refl
feedback-parity (suc zero) h = refl
feedback-parity (suc (suc b)) h = absurd (omega arith)

pub shift-parity : (k c : ℕ) → c < 2 ^ (16 + k) → ones (16 + k) (shift c) % 2 ≡ ones (16 + k) c % 2
unfolding shift
shift-parity k c h =
    let fed : ones (16 + k) (feedback (c % 2)) ≡ ones 16 (feedback (c % 2)) = ones-more 16 k (feedback (c % 2)) (feedback-lt (c % 2)) in
    ones-xor (16 + k) (c / 2) (feedback (c % 2)) ∙ omega (arith, fed, feedback-parity (c % 2) (omega arith), ones_half (16 + k) c h)

pub shifts-parity : (j k c : ℕ) → c < 2 ^ (16 + k) → ones (16 + k) (shifts j c) % 2 ≡ ones (16 + k) c % 2
unfolding shifts
shifts-parity zero k c h = refl
shifts-parity (suc j) k c h = shifts-parity j k (shift c) (shift-below k c (lt_of_le_of_lt (shr_le c 1) h)) ∙ shift-parity k c h

pub absorb-parity : (c b : ℕ) → c < 65536 → b < 256 → ones 16 (absorb c b) % 2 ≡ (ones 16 c + ones 8 b) % 2
unfolding absorb
absorb-parity c b h k =
    shifts-parity 8 0 (bit_xor c b) (xor_lt 16 c b h (omega arith)) ∙ ones-xor 16 c b ∙ ap (λ (n : ℕ). (ones 16 c + n) % 2) (ones-more 8 8 b k)

pub crc_from-parity : (c : ℕ) (s : List ℕ) → c < 65536 → Bytes s → ones 16 (crc_from c s) % 2 ≡ (ones 16 c + ones_of s) % 2
unfolding ones_of
crc_from-parity c [] h k = ap (λ (n : ℕ). ones 16 n % 2) (crc_from-nil c) ∙ ap (λ (n : ℕ). n % 2) (sym (add-zero (ones 16 c)))
crc_from-parity c (b ∷ s) h k =
    ap (λ (n : ℕ). ones 16 n % 2) (crc_from-cons c b s)
    ∙ crc_from-parity (absorb c b) s (absorb-lt c b h k.0) k.1
    ∙ sum-parity (ones 16 (absorb c b)) (ones_of s) (ones 16 c) (ones 8 b) 0 (ones_of s) (absorb-parity c b h k.0) (omega arith)
    ∙ ap (λ (n : ℕ). (n + ones_of (b ∷ s)) % 2) (add-zero (ones 16 c))

-- the CRC has the parity of the data
pub crc-parity : (s : List ℕ) → Bytes s → (ones_of s + ones_of (be 4 (crc s))) % 2 ≡ 0
unfolding crc
crc-parity s h =
    let field : ones_of (be 4 (crc s)) ≡ ones 16 (crc s) = ones-be 4 (crc s) ∙ ones-more 16 16 (crc s) (crc-lt s h) in
    let state : ones 16 (crc s) % 2 ≡ (ones 16 0 + ones_of s) % 2 = crc_from-parity 0 s (lit< tt) h in
    omega (arith, ones-zero 16)
