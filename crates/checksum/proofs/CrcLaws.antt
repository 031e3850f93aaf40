-- The CRC is linear and loses nothing of the state, so it tells two lists of bytes apart that differ in two neighbours.
use Prim.Native.Nat.{ℕ, zero, suc, ◌+◌, ◌*◌, ◌/◌, ◌%◌, ◌^◌, ◌<◌, ◌≤◌}
use native.Mathlib.Nat.{suc_inj, lt_of_lt_of_le}
use native.Mathlib.Numerals.{add-one}
use native.Mathlib.Omega.{arith}
use mathlib.Core.Path.{◌≡◌, refl, sym, ap, ap₂, ◌∙◌}
use mathlib.Core.List.{List, [], ◌∷◌}
use lib.ListN.{length, get_or, drop, drop_of_length-le}
use lib.Dec.{lit<}
use lib.Pow.{pow_mono}
use lib.Seq.{drop-cons, ext_get_or}
use lib.Bits.{bit_xor, xor_zero_r, xor_self, xor_lt, xor_mod, shifted_half, shifted_even}
use Rattle.wire.specs.Numbers.{Bytes}
use Rattle.checksum.specs.Crc.{feedback, shift, shifts, absorb, crc_from, crc}
use Rattle.checksum.proofs.XorLaws.{xor-half, xor-swap, xor-equal, xor-across, xors}

-- the check value of the catalogue: the bytes of "123456789"
pub check : crc (0x31 ∷ 0x32 ∷ 0x33 ∷ 0x34 ∷ 0x35 ∷ 0x36 ∷ 0x37 ∷ 0x38 ∷ 0x39 ∷ []) ≡ 0xBB3D
unfolding crc
check = refl

-- ---- the two cases of a list, for proofs in which a state is not to be computed

pub crc_from-nil : (c : ℕ) → crc_from c [] ≡ c
unfolding crc_from
crc_from-nil c = refl

pub crc_from-cons : (c b : ℕ) (s : List ℕ) → crc_from c (b ∷ s) ≡ crc_from (absorb c b) s
unfolding crc_from
crc_from-cons c b s = refl

-- at a place in a list, and at its end
pub crc_from-at : (c : ℕ) (s : List ℕ) (i : ℕ) → i < length s → crc_from c (drop i s) ≡ crc_from (absorb c (get_or s i 0)) (drop (i + 1) s)
crc_from-at c s i h =
    ap (crc_from c) (drop-cons s i 0 h) ∙ crc_from-cons c (get_or s i 0) (drop (suc i) s) ∙ ap (λ (n : ℕ). crc_from (absorb c (get_or s i 0)) (drop n s)) (sym (add-one i))

pub crc_from-end : (c : ℕ) (s : List ℕ) {i : ℕ} → length s ≤ i → crc_from c (drop i s) ≡ c
crc_from-end c s h = ap (crc_from c) (drop_of_length-le s h) ∙ crc_from-nil c

-- ---- a state has 16 bits

pub feedback-lt : (b : ℕ) → feedback b < 65536
unfolding feedback
feedback-lt zero = lit< tt
feedback-lt (suc b) = lit< tt

-- a wider number keeps the bits of its half
pub shift-below : (k n : ℕ) → n / 2 < 2 ^ (16 + k) → shift n < 2 ^ (16 + k)
unfolding shift
shift-below k n h =
    let more : 16 ≤ 16 + k = omega arith in
    xor_lt (16 + k) (n / 2) (feedback (n % 2)) h (lt_of_lt_of_le (feedback-lt (n % 2)) (pow_mono more))

pub shift-lt : (c : ℕ) → c < 65536 → shift c < 65536
shift-lt c h = shift-below 0 c (omega arith)

pub shifts-lt : (k c : ℕ) → c < 65536 → shifts k c < 65536
unfolding shifts
shifts-lt zero c h = h
shifts-lt (suc k) c h = shifts-lt k (shift c) (shift-lt c h)

byte-state : {b : ℕ} → b < 256 → b < 65536
byte-state h = omega arith

pub absorb-lt : (c b : ℕ) → c < 65536 → b < 256 → absorb c b < 65536
unfolding absorb
absorb-lt c b h k = shifts-lt 8 (bit_xor c b) (xor_lt 16 c b h (byte-state k))

pub crc_from-lt : (c : ℕ) (s : List ℕ) → c < 65536 → Bytes s → crc_from c s < 65536
unfolding crc_from
crc_from-lt c [] h k = h
crc_from-lt c (b ∷ s) h k = crc_from-lt (absorb c b) s (absorb-lt c b h k.0) k.1

pub crc-lt : (s : List ℕ) → Bytes s → crc s < 65536
unfolding crc
crc-lt s h = crc_from-lt 0 s (lit< tt) h

-- ---- linear

feedback-linear : (x y : ℕ) → x < 2 → y < 2 → feedback (bit_xor x y) ≡ bit_xor (feedback x) (feedback y)
unfolding feedback
feedback-linear zero y h k = refl
feedback-linear (suc zero) zero h k = refl
feedback-linear (suc zero) (suc zero) h k = refl
feedback-linear (suc zero) (suc (suc y)) h k = absurd (omega arith)
feedback-linear (suc (suc x)) y h k = absurd (omega arith)

pub shift-linear : (a b : ℕ) → shift (bit_xor a b) ≡ bit_xor (shift a) (shift b)
unfolding shift
shift-linear a b =
    ap₂ (λ (h l : ℕ). bit_xor h (feedback l)) (xor-half a b) (xor_mod a b 1)
    ∙ ap (bit_xor (bit_xor (a / 2) (b / 2))) (feedback-linear (a % 2) (b % 2) (omega arith) (omega arith))
    ∙ xor-swap (a / 2) (b / 2) (feedback (a % 2)) (feedback (b % 2))

pub shifts-linear : (k a b : ℕ) → shifts k (bit_xor a b) ≡ bit_xor (shifts k a) (shifts k b)
unfolding shifts
shifts-linear zero a b = refl
shifts-linear (suc k) a b = ap (shifts k) (shift-linear a b) ∙ shifts-linear k (shift a) (shift b)

pub absorb-linear : (a b c d : ℕ) → absorb (bit_xor a b) (bit_xor c d) ≡ bit_xor (absorb a c) (absorb b d)
unfolding absorb
absorb-linear a b c d = ap (shifts 8) (xor-swap a b c d) ∙ shifts-linear 8 (bit_xor a c) (bit_xor b d)

pub crc_from-linear : (a b : ℕ) (p q : List ℕ) → length p ≡ length q → crc_from (bit_xor a b) (xors p q) ≡ bit_xor (crc_from a p) (crc_from b q)
unfolding crc_from xors
crc_from-linear a b [] [] n = refl
crc_from-linear a b [] (y ∷ q) n = absurd (omega arith)
crc_from-linear a b (x ∷ p) [] n = absurd (omega arith)
crc_from-linear a b (x ∷ p) (y ∷ q) n = ap (λ (c : ℕ). crc_from c (xors p q)) (absorb-linear a b x y) ∙ crc_from-linear (absorb a x) (absorb b y) p q (suc_inj n)

-- ---- nothing is lost

-- half of a state is below the polynomial
no-feedback : (b c : ℕ) → c < 65536 → c % 2 ≡ b → c / 2 ≡ feedback b → c ≡ 0
unfolding feedback
no-feedback zero c h p q = omega arith
no-feedback (suc b) c h p q = omega arith

pub shift-kernel : (c : ℕ) → c < 65536 → shift c ≡ 0 → c ≡ 0
unfolding shift
shift-kernel c h e = no-feedback (c % 2) c h refl (xor-equal (c / 2) (feedback (c % 2)) e)

pub shifts-kernel : (k c : ℕ) → c < 65536 → shifts k c ≡ 0 → c ≡ 0
unfolding shifts
shifts-kernel zero c h e = e
shifts-kernel (suc k) c h e = shift-kernel c h (shifts-kernel k (shift c) (shift-lt c h) e)

pub shifts-injective : (k a b : ℕ) → a < 65536 → b < 65536 → shifts k a ≡ shifts k b → a ≡ b
shifts-injective k a b h l e =
    xor-equal a b (shifts-kernel k (bit_xor a b) (xor_lt 16 a b h l) (cc (shifts-linear k a b, xor_self (shifts k b))))

-- where one state follows, the states before differ as the bytes do
pub absorb-across : (a b x y : ℕ) → a < 65536 → b < 65536 → x < 256 → y < 256 → absorb a x ≡ absorb b y → bit_xor a b ≡ bit_xor x y
unfolding absorb
absorb-across a b x y ha hb hx hy e =
    xor-across a x b y (shifts-injective 8 (bit_xor a x) (bit_xor b y) (xor_lt 16 a x ha (byte-state hx)) (xor_lt 16 b y hb (byte-state hy)) e)

pub absorb-injective : (a b c : ℕ) → a < 65536 → b < 65536 → c < 256 → absorb a c ≡ absorb b c → a ≡ b
absorb-injective a b c h l k e = xor-equal a b (absorb-across a b c c h l k k e ∙ xor_self c)

pub crc_from-injective : (a b : ℕ) (s : List ℕ) → a < 65536 → b < 65536 → Bytes s → crc_from a s ≡ crc_from b s → a ≡ b
unfolding crc_from
crc_from-injective a b [] h l k e = e
crc_from-injective a b (c ∷ s) h l k e =
    absorb-injective a b c h l k.0
    (crc_from-injective (absorb a c) (absorb b c) s (absorb-lt a c h k.0) (absorb-lt b c l k.0) k.1 e)

-- ---- two neighbours

-- zeros at the bottom are shifted out
pub shifts-up : (k n : ℕ) → shifts k (n * 2 ^ k) ≡ n
unfolding shifts feedback
shifts-up zero n = omega arith
shifts-up (suc k) n =
    ap (shifts k) (ap₂ (λ (h l : ℕ). bit_xor h (feedback l)) (shifted_half n k) (shifted_even n k) ∙ xor_zero_r (n * 2 ^ k)) ∙ shifts-up k n

-- a byte is undone by no byte after it
undone : (u v : ℕ) → u < 256 → v < 256 → absorb 0 u ≡ v → (u ≡ 0) × (v ≡ 0)
unfolding absorb
undone u v h k e =
    let same : u ≡ v * 256 = shifts-injective 8 u (v * 256) (byte-state h) (omega arith) (e ∙ sym (shifts-up 8 v)) in
    omega arith

two_bytes : (c x y x' y' : ℕ) → c < 65536 → x < 256 → y < 256 → x' < 256 → y' < 256
    → absorb (absorb c x) y ≡ absorb (absorb c x') y' → (x ≡ x') × (y ≡ y')
two_bytes c x y x' y' hc hx hy hx' hy' e =
    let u : ℕ = bit_xor x x' in
    let v : ℕ = bit_xor y y' in
    let state : absorb 0 u ≡ bit_xor (absorb c x) (absorb c x') = ap (λ (n : ℕ). absorb n u) (sym (xor_self c)) ∙ absorb-linear c c x x' in
    let byte : bit_xor (absorb c x) (absorb c x') ≡ v = absorb-across (absorb c x) (absorb c x') y y' (absorb-lt c x hc hx) (absorb-lt c x' hc hx') hy hy' e in
    let zeros : (u ≡ 0) × (v ≡ 0) = undone u v (xor_lt 8 x x' hx hx') (xor_lt 8 y y' hy hy') (state ∙ byte) in
    (xor-equal x x' zeros.0, xor-equal y y' zeros.1)

first_two : (c x y : ℕ) (p q : List ℕ) → c < 65536 → Bytes (x ∷ p) → Bytes (y ∷ q) → length p ≡ length q
    → ((j : ℕ) → get_or p (suc j) 0 ≡ get_or q (suc j) 0) → crc_from (absorb c x) p ≡ crc_from (absorb c y) q → x ∷ p ≡ y ∷ q
first_two c x y [] [] h k l n a e =
    let states : absorb c x ≡ absorb c y = sym (crc_from-nil (absorb c x)) ∙ e ∙ crc_from-nil (absorb c y) in
    ap (λ (b : ℕ). b ∷ []) (two_bytes c x 0 y 0 h k.0 (lit< tt) l.0 (lit< tt) (ap (λ (b : ℕ). absorb b 0) states)).0
first_two c x y [] (y' ∷ q) h k l n a e = absurd (omega arith)
first_two c x y (x' ∷ p) [] h k l n a e = absurd (omega arith)
first_two c x y (x' ∷ p) (y' ∷ q) h k l n a e =
    let tails : p ≡ q = ext_get_or 0 p q (suc_inj n) (λ j b. a j) in
    let u : ℕ = absorb (absorb c x) x' in
    let v : ℕ = absorb (absorb c y) y' in
    let hu : u < 65536 = absorb-lt (absorb c x) x' (absorb-lt c x h k.0) k.1.0 in
    let hv : v < 65536 = absorb-lt (absorb c y) y' (absorb-lt c y h l.0) l.1.0 in
    let ends : crc_from u p ≡ crc_from v p = cc (crc_from-cons (absorb c x) x' p, crc_from-cons (absorb c y) y' q) in
    let heads : (x ≡ y) × (x' ≡ y') = two_bytes c x x' y y' h k.0 k.1.0 l.0 l.1.0 (crc_from-injective u v p hu hv k.1.1 ends) in
    cc

neighbours-from : (c : ℕ) (d e : List ℕ) (i : ℕ) → c < 65536 → Bytes d → Bytes e → length d ≡ length e
    → ((j : ℕ) → (j ≡ i → ⊥) → (j ≡ suc i → ⊥) → get_or d j 0 ≡ get_or e j 0) → crc_from c d ≡ crc_from c e → d ≡ e
unfolding crc_from
neighbours-from c [] [] i h k l n a e = refl
neighbours-from c [] (y ∷ q) i h k l n a e = absurd (omega arith)
neighbours-from c (x ∷ p) [] i h k l n a e = absurd (omega arith)
neighbours-from c (x ∷ p) (y ∷ q) zero h k l n a e = first_two c x y p q h k l (suc_inj n) (λ j. a (suc (suc j)) (omega arith) (omega arith)) e
neighbours-from c (x ∷ p) (y ∷ q) (suc i) h k l n a e =
    let same : x ≡ y = a 0 (omega arith) (omega arith) in
    ap₂ (λ (b : ℕ) (t : List ℕ). b ∷ t) same
    (neighbours-from (absorb c x) p q i (absorb-lt c x h k.0) k.1 l.1 (suc_inj n) (λ j f g. a (suc j) (λ s. f (suc_inj s)) (λ s. g (suc_inj s)))
    (e ∙ ap (λ (b : ℕ). crc_from (absorb c b) q) (sym same)))

-- equally long lists of bytes that agree at every place but two neighbours, and have one CRC, are equal
pub neighbours : (d e : List ℕ) (i : ℕ) → Bytes d → Bytes e → length d ≡ length e
    → ((j : ℕ) → (j ≡ i → ⊥) → (j ≡ suc i → ⊥) → get_or d j 0 ≡ get_or e j 0) → crc d ≡ crc e → d ≡ e
unfolding crc
neighbours d e i = neighbours-from 0 d e i (lit< tt)
