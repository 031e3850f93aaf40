-- The CRC by words: the bytes that do not fill a word, the words of a list from its first bytes on, and the 16 bits at the end.
use Prim.Native.Nat.{ℕ, zero, suc, ◌+◌, ◌-◌, ◌*◌, ◌/◌, ◌%◌, ◌^◌, ◌<◌, ◌≤◌}
use native.Mathlib.Nat.{zero-add, add-zero, add_comm, mul_assoc, lt_of_lt_of_le}
use native.Mathlib.Omega.{arith}
use mathlib.Core.Path.{◌≡◌, refl, sym, ap, ap₂, ◌∙◌, subst}
use mathlib.Core.List.{List}
use lib.ListN.{length, get_or, drop}
use lib.Dec.{lit<, lit≤}
use lib.Count.{ones as count, ones_step}
use lib.Pow.{pow-add, mod-mod-pow, low, shr_lt}
use lib.Bits.{bit_xor, xor_comm, xor_zero_l, xor_zero_r, xor_lt, xor_shifted, xor_assoc}
use Rattle.wire.specs.Numbers.{Bytes, little_at}
use Rattle.wire.proofs.Widths.{bytes-get_d}
use Rattle.wire.proofs.Shifts.{little-bits, little-add}
use Rattle.checksum.specs.Crc.{shifts, absorb, crc_from, crc}
use Rattle.checksum.specs.Bits.{ones}
use Rattle.checksum.specs.Fold.{raised, Alike, joined, Reached}
use Rattle.checksum.proofs.XorLaws.{xor-swap}
use Rattle.checksum.proofs.CrcLaws.{crc_from-at, crc_from-end, shifts-linear, shifts-up}
use Rattle.checksum.proofs.BitLaws.{ones-zero, ones-more, ones-xor, shifts-parity}
use Rattle.checksum.proofs.ModuloLaws.{shifts-add, shifts-word, alike-shifts, alike-xor}
use Rattle.checksum.proofs.FoldLaws.{upper, halved, alike-equal}

-- ---- the bytes that do not fill a word

-- the first bytes of a word
little-mod : (s : List ℕ) (at v w : ℕ) → Bytes s → little_at s at (v + w) % 2 ^ (8 * v) ≡ little_at s at v
little-mod s at v w h = ap (λ (n : ℕ). n % 2 ^ (8 * v)) (little-add s at v w) ∙ low (little_at s (at + v) w) (8 * v) (little-bits s at v h)

-- the first bytes of eight, moved to the upper end: by a shift that keeps a byte too many, and one that drops it
upper-bytes : (s : List ℕ) (q : ℕ) → Bytes s → q ≤ 7 → little_at s 0 8 * 2 ^ (56 - 8 * q) % 2 ^ 64 * 2 ^ 8 % 2 ^ 64 ≡ little_at s 0 q * 2 ^ (64 - 8 * q)
upper-bytes s q h f =
    let n : ℕ = little_at s 0 8 in
    let j : ℕ = 8 * q in
    let more : 56 - j ≡ 64 - (j + 8) = omega arith in
    let all : 64 - (j + 8) + 8 ≡ 64 - j = omega arith in
    let bytes : q + (8 - q) ≡ 8 = omega arith in
    ap (λ (k : ℕ). n * 2 ^ k % 2 ^ 64 * 2 ^ 8 % 2 ^ 64) more
    ∙ ap (λ (m : ℕ). m * 2 ^ 8 % 2 ^ 64) (upper 64 (j + 8) n (omega arith))
    ∙ ap (λ (m : ℕ). m % 2 ^ 64) (mul_assoc (n % 2 ^ (j + 8)) (2 ^ (64 - (j + 8))) (2 ^ 8) ∙ ap (λ (m : ℕ). n % 2 ^ (j + 8) * m) (sym (pow-add 2 (64 - (j + 8)) 8) ∙ ap (λ (k : ℕ). 2 ^ k) all))
    ∙ upper 64 j (n % 2 ^ (j + 8)) (omega arith)
    ∙ ap (λ (m : ℕ). m * 2 ^ (64 - j)) (ap (λ (k : ℕ). n % 2 ^ k % 2 ^ j) (add_comm j 8) ∙ mod-mod-pow n 8 j ∙ ap (λ (k : ℕ). little_at s 0 k % 2 ^ j) (sym bytes) ∙ little-mod s 0 q (8 - q) h)

-- ---- the CRC of the bytes of a number

-- `w` bytes are eight times as many shifts
pub crc_from-bytes : (w c : ℕ) (s : List ℕ) (at : ℕ) → Bytes s → at + w ≤ length s
    → crc_from c (drop at s) ≡ crc_from (shifts (8 * w) (bit_xor c (little_at s at w))) (drop (at + w) s)
unfolding little_at absorb
crc_from-bytes zero c s at h f = ap₂ (λ (n m : ℕ). crc_from n (drop m s)) (sym (xor_zero_r c)) (sym (add-zero at))
crc_from-bytes (suc w) c s at h f =
    let b : ℕ = get_or s at 0 in
    let n : ℕ = little_at s (at + 1) w in
    let place : at + 1 + w ≡ at + suc w = omega arith in
    let width : 8 + 8 * w ≡ 8 * suc w = omega arith in
    let bytes : bit_xor (bit_xor c b) (n * 2 ^ 8) ≡ bit_xor c (b + 256 * n) =
    xor_assoc c b (n * 2 ^ 8) ∙ ap (bit_xor c) (xor_comm b (n * 2 ^ 8) ∙ xor_shifted n 8 b (bytes-get_d s at h) ∙ omega arith) in
    let byte : bit_xor (absorb c b) n ≡ shifts 8 (bit_xor c (b + 256 * n)) =
    ap (bit_xor (shifts 8 (bit_xor c b))) (sym (shifts-up 8 n)) ∙ sym (shifts-linear 8 (bit_xor c b) (n * 2 ^ 8)) ∙ ap (shifts 8) bytes in
    let all : shifts (8 * w) (bit_xor (absorb c b) n) ≡ shifts (8 * suc w) (bit_xor c (b + 256 * n)) =
    ap (shifts (8 * w)) byte ∙ sym (shifts-add 8 (8 * w) (bit_xor c (b + 256 * n))) ∙ ap (λ (k : ℕ). shifts k (bit_xor c (b + 256 * n))) width in
    crc_from-at c s at (omega arith)
    ∙ crc_from-bytes w (absorb c b) s (at + 1) h (omega arith)
    ∙ ap₂ (λ (c : ℕ) (m : ℕ). crc_from c (drop m s)) all place

-- ---- a word

pub state-fits : {n : ℕ} → n < 65536 → n < 2 ^ 64
state-fits h =
    let wide : 65536 ≤ 2 ^ 64 = lit≤ tt in
    lt_of_lt_of_le h wide

-- a state and the word put into it
state-word : (c w : ℕ) → c < 65536 → w < 2 ^ 64 → bit_xor c w < 2 ^ 64
state-word c w h k = xor_lt 64 c w (state-fits h) k

word_lt : (c w : ℕ) → c < 65536 → w < 2 ^ 64 → shifts 64 (bit_xor c w) < 65536
word_lt c w h k = shifts-word 64 (bit_xor c w) (state-word c w h k)

word-parity : (c w : ℕ) → c < 65536 → w < 2 ^ 64 → ones 16 (shifts 64 (bit_xor c w)) % 2 ≡ (ones 16 c + ones 64 w) % 2
word-parity c w h k =
    ap (λ (n : ℕ). n % 2) (sym (ones-more 16 48 (shifts 64 (bit_xor c w)) (word_lt c w h k)))
    ∙ shifts-parity 64 48 (bit_xor c w) (state-word c w h k)
    ∙ ones-xor 64 c w
    ∙ ap (λ (n : ℕ). (n + ones 64 w) % 2) (ones-more 16 48 c h)

-- ---- the words of a list

-- the odd bytes, at the upper end of a word
pub odd-bytes : (s : List ℕ) (q x : ℕ) → Bytes s → q ≤ 7 → q ≤ length s → x < 2 ^ 64 → x ≡ little_at s 0 8 * 2 ^ (56 - 8 * q) % 2 ^ 64 * 2 ^ 8 % 2 ^ 64
    → Reached s q x x
unfolding Reached crc
odd-bytes s q x h f g k e =
    let width : 64 ≡ 64 - 8 * q + 8 * q = omega arith in
    let same : shifts (8 * q) (bit_xor 0 (little_at s 0 q)) ≡ shifts 64 x =
    ap (shifts (8 * q)) (xor_zero_l (little_at s 0 q) ∙ sym (shifts-up (64 - 8 * q) (little_at s 0 q)))
    ∙ sym (shifts-add (64 - 8 * q) (8 * q) (little_at s 0 q * 2 ^ (64 - 8 * q)))
    ∙ ap₂ shifts (sym width) (sym (e ∙ upper-bytes s q h f)) in
    let rest : crc_from 0 s ≡ crc_from (shifts 64 x) (drop q s) =
    crc_from-bytes q 0 s 0 h (omega arith) ∙ ap₂ (λ (c n : ℕ). crc_from c (drop n s)) same (zero-add q) in
    let parity : ones 16 (shifts 64 x) % 2 ≡ ones 64 x % 2 =
    ap (λ (n : ℕ). ones 16 (shifts 64 n) % 2) (sym (xor_zero_l x)) ∙ word-parity 0 x (lit< tt) k ∙ omega (arith, ones-zero 16) in
    (shifts 64 x, shifts-word 64 x k, refl, parity, sym rest)

-- another number that holds the same
pub otherwise : (s : List ℕ) (at v u p : ℕ) → Alike (shifts 64 v) (shifts 64 u) → Reached s at v p → Reached s at u p
unfolding Reached
otherwise s at v u p e (c, below, alike, parity, rest) = (c, below, alike ∙ e, parity, rest)

-- a word alone is the second of two
pub alone : (s : List ℕ) (at v p : ℕ) → Reached s at v p → Reached s at (joined 64 0 v) p
unfolding joined
alone s at v p r = subst (λ (n : ℕ). Reached s at n p) (sym (xor_zero_l v)) r

-- the same in variables that are equal
pub moved : (s : List ℕ) (at l h p at' l' h' p' : ℕ) → at ≡ at' → l ≡ l' → h ≡ h' → p ≡ p' → Reached s at' (joined 64 l' h') p' → Reached s at (joined 64 l h) p
moved s at l h p at' l' h' p' ea el eh ep r =
    subst (λ (n : ℕ). Reached s n (joined 64 l h) p) (sym ea)
    (subst (λ (n : ℕ). Reached s at' n p) (sym (ap₂ (joined 64) el eh)) (subst (Reached s at' (joined 64 l' h')) (sym ep) r))

-- a word more
pub behind : (m n w : ℕ) → Alike m n → Alike (shifts 64 (bit_xor m w)) (shifts 64 (bit_xor n w))
behind m n w e = alike-shifts 64 (bit_xor m w) (bit_xor n w) (alike-xor m n w w e refl)

pub next_word : (s : List ℕ) (at v p w : ℕ) → Bytes s → at + 8 ≤ length s → w < 2 ^ 64 → w ≡ little_at s at 8
    → Reached s at v p → Reached s (at + 8) (joined 64 v w) (bit_xor p w)
unfolding Reached joined
next_word s at v p w h f k e (c, below, alike, parity, rest) =
    let parity-next : ones 16 (shifts 64 (bit_xor c w)) % 2 ≡ ones 64 (bit_xor p w) % 2 =
    word-parity c w below k ∙ omega (arith, parity) ∙ sym (ones-xor 64 p w) in
    let rest-next : crc_from (shifts 64 (bit_xor c w)) (drop (at + 8) s) ≡ crc s =
    ap (λ (n : ℕ). crc_from (shifts 64 (bit_xor c n)) (drop (at + 8) s)) e ∙ sym (crc_from-bytes 8 c s at h f) ∙ rest in
    (shifts 64 (bit_xor c w), word_lt c w below k, behind c (shifts 64 v) w alike, parity-next, rest-next)

-- the word behind two, the first of which is folded
pub next-odd : (s : List ℕ) (at l h a p w : ℕ) → Bytes s → at + 8 ≤ length s → w < 2 ^ 64 → w ≡ little_at s at 8
    → Alike (shifts 64 a) (shifts 64 (shifts 64 l)) → Reached s at (joined 64 l h) p → Reached s (at + 8) (joined 64 (bit_xor a h) w) (bit_xor p w)
unfolding joined
next-odd s at l h a p w d f k e g r =
    otherwise s (at + 8) (joined 64 (joined 64 l h) w) (joined 64 (bit_xor a h) w) (bit_xor p w)
    (behind (shifts 64 (joined 64 l h)) (shifts 64 (bit_xor a h)) w (sym (halved 64 l h a g)))
    (next_word s at (joined 64 l h) p w d f k e r)

-- ---- two words a step

-- behind `n`, in the two words that hold it, folded
pub two-words : (a b n v w : ℕ) → Alike (shifts 64 (joined 64 a b)) (shifts 128 (shifts 64 n))
    → Alike (shifts 64 (joined 64 (joined 64 n v) w)) (shifts 64 (joined 64 (bit_xor a v) (bit_xor b w)))
unfolding joined
two-words a b n v w e =
    let m : ℕ = shifts 64 n in
    let left : shifts 64 (joined 64 (joined 64 n v) w) ≡ bit_xor (shifts 128 m) (shifts 64 (joined 64 v w)) =
    ap (shifts 64) (ap (λ (k : ℕ). bit_xor k w) (shifts-linear 64 m v) ∙ xor_assoc (shifts 64 m) (shifts 64 v) w)
    ∙ shifts-linear 64 (shifts 64 m) (joined 64 v w)
    ∙ ap (λ (k : ℕ). bit_xor k (shifts 64 (joined 64 v w))) (sym (shifts-add 64 64 m)) in
    let right : shifts 64 (joined 64 (bit_xor a v) (bit_xor b w)) ≡ bit_xor (shifts 64 (joined 64 a b)) (shifts 64 (joined 64 v w)) =
    ap (shifts 64) (ap (λ (k : ℕ). bit_xor k (bit_xor b w)) (shifts-linear 64 a v) ∙ xor-swap (shifts 64 a) (shifts 64 v) b w)
    ∙ shifts-linear 64 (joined 64 a b) (joined 64 v w) in
    ap raised left
    ∙ alike-xor (shifts 128 m) (shifts 64 (joined 64 a b)) (shifts 64 (joined 64 v w)) (shifts 64 (joined 64 v w)) (sym e) refl
    ∙ ap raised (sym right)

pub next-two : (s : List ℕ) (at l h a b p v w : ℕ) → Bytes s → at + 16 ≤ length s → v < 2 ^ 64 → w < 2 ^ 64 → v ≡ little_at s at 8 → w ≡ little_at s (at + 8) 8
    → Alike (shifts 64 (joined 64 a b)) (shifts 128 (shifts 64 (joined 64 l h))) → Reached s at (joined 64 l h) p
    → Reached s (at + 16) (joined 64 (bit_xor a v) (bit_xor b w)) (bit_xor p (bit_xor v w))
next-two s at l h a b p v w d f hv hw ev ew e r =
    let n : ℕ = joined 64 l h in
    let place : at + 8 + 8 ≡ at + 16 = omega arith in
    let two : Reached s (at + 8 + 8) (joined 64 (joined 64 n v) w) (bit_xor (bit_xor p v) w) =
    next_word s (at + 8) (joined 64 n v) (bit_xor p v) w d (omega arith) hw ew (next_word s at n p v d (omega arith) hv ev r) in
    subst (Reached s (at + 16) (joined 64 (bit_xor a v) (bit_xor b w))) (xor_assoc p v w)
    (subst (λ (m : ℕ). Reached s m (joined 64 (bit_xor a v) (bit_xor b w)) (bit_xor (bit_xor p v) w)) place
    (otherwise s (at + 8 + 8) (joined 64 (joined 64 n v) w) (joined 64 (bit_xor a v) (bit_xor b w)) (bit_xor (bit_xor p v) w) (two-words a b n v w e) two))

-- ---- at the end

-- the 16 bits that are alike and have the parity of the data
pub all_words : (s : List ℕ) (at v p q r : ℕ) → length s ≤ at → Alike r (shifts 64 v) → Alike q r → ones 16 q % 2 ≡ ones 64 p % 2 → Reached s at v p → q ≡ crc s
unfolding Reached
all_words s at v p q r f e g o (c, below, alike, parity, rest) = alike-equal q c (g ∙ e ∙ sym alike) (o ∙ sym parity) ∙ sym (crc_from-end c s f) ∙ rest

-- the bits of a word, as the machine counts them
count-zero : count 0 ≡ 0
unfolding count
count-zero = refl

counted : (k n : ℕ) → n < 2 ^ k → count n ≡ ones k n
unfolding ones
counted zero n h =
    let none : n ≡ 0 = omega arith in
    ap count none ∙ count-zero
counted (suc k) n h = ones_step n ∙ ap (λ (m : ℕ). n % 2 + m) (counted k (n / 2) (shr_lt k 1 (subst (λ (m : ℕ). n < 2 ^ m) (omega arith) h)))

pub parity-counted : (p r : ℕ) → p < 2 ^ 64 → r < 65536 → (ones 64 p + ones 16 r) % 2 ≡ count (bit_xor p r) % 2
parity-counted p r h k =
    ap (λ (n : ℕ). (ones 64 p + n) % 2) (sym (ones-more 16 48 r k))
    ∙ sym (ones-xor 64 p r)
    ∙ ap (λ (n : ℕ). n % 2) (sym (counted 64 (bit_xor p r) (xor_lt 64 p r h (state-fits k))))
