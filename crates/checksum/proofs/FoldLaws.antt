-- A word is folded by a few shifts: what leaves it at the lower end is carried to the upper.
use Prim.Native.Nat.{ℕ, zero, suc, ◌+◌, ◌-◌, ◌*◌, ◌/◌, ◌%◌, ◌^◌, ◌<◌, ◌≤◌}
use native.Mathlib.Nat.{add-zero, mul_assoc, mul-mod_left, mod-lt, lt_of_lt_of_le, lt_of_le_of_lt}
use native.Mathlib.Omega.{arith}
use mathlib.Core.Path.{◌≡◌, refl, sym, ap, ap₂, ◌∙◌}
use lib.Dec.{lit≤}
use lib.Pow.{pow_mono, pow_pos, pow-add, mod-pow-add, shl-shr, shr_le}
use lib.Bits.{bit_xor, xor_comm, xor_zero_r, xor_self, xor_lt, xor_mod, xor_assoc}
use Rattle.checksum.specs.Crc.{feedback, shift, shifts}
use Rattle.checksum.specs.Bits.{ones}
use Rattle.checksum.specs.Fold.{raised, Alike, joined}
use Rattle.checksum.proofs.XorLaws.{xor-odd, xor-swap, xor-undo, xor-cancel, xor-equal}
use Rattle.checksum.proofs.BitLaws.{ones-xor}
use Rattle.checksum.proofs.CrcLaws.{shifts-linear, shifts-lt, shifts-injective, shifts-up}
use Rattle.checksum.proofs.ModuloLaws.{shifts-add, shifts-comm, shifts-split, shifts-below, shifts-word, raised-linear, raised-shifts, raised_lt, alike-shifts, alike-xor, alike-cancel, beside, beside-linear, beside-shifts, Factor, factor-1}

-- ---- what the code does

-- times x^2k + x^k, without the bits that leave the word
unfoldable pub lowered : ℕ → ℕ → ℕ
lowered k n = bit_xor (n / 2 ^ k) (n / 2 ^ (2 * k))

-- those bits, at the upper end of a word of `w` bits
unfoldable pub carried : ℕ → ℕ → ℕ → ℕ
carried w k n = bit_xor (n * 2 ^ (w - k) % 2 ^ w) (n * 2 ^ (w - 2 * k) % 2 ^ w)

-- a word of 16k bits, times x^16k
unfoldable pub fold : ℕ → ℕ → ℕ
unfolding lowered carried
fold k n = lowered k (bit_xor n (carried (16 * k) k n))

-- ---- x^16k = x^2k + x^k

-- times x^2k + x^k
spread : ℕ → ℕ → ℕ
spread k n = shifts k (beside k n)

spread-terms : (k n : ℕ) → spread k n ≡ bit_xor (shifts k n) (shifts (2 * k) n)
unfolding spread beside
spread-terms k n =
    let twice : k + k ≡ 2 * k = omega arith in
    shifts-linear k (shifts k n) n
    ∙ xor_comm (shifts k (shifts k n)) (shifts k n)
    ∙ ap (bit_xor (shifts k n)) (sym (shifts-add k k n) ∙ ap (λ (m : ℕ). shifts m n) twice)

spread-linear : (k a b : ℕ) → spread k (bit_xor a b) ≡ bit_xor (spread k a) (spread k b)
unfolding spread
spread-linear k a b = ap (shifts k) (beside-linear k a b) ∙ shifts-linear k (beside k a) (beside k b)

spread-shifts : (j k n : ℕ) → shifts j (spread k n) ≡ spread k (shifts j n)
unfolding spread
spread-shifts j k n = shifts-comm j k (beside k n) ∙ ap (shifts k) (beside-shifts j k n)

-- the factor, times x^k
power : (k n : ℕ) → Factor k → n < 65536 → Alike (shifts (16 * k) n) (spread k n)
unfolding spread
power k n p h =
    let width : 15 * k + k ≡ 16 * k = omega arith in
    ap (λ (m : ℕ). raised (shifts m n)) (sym width) ∙ ap raised (shifts-add (15 * k) k n) ∙ alike-shifts k (shifts (15 * k) n) (beside k n) (p n h)

-- ---- bits that leave a word

-- `j` bits at the upper end of a word
pub upper : (w j n : ℕ) → j ≤ w → n * 2 ^ (w - j) % 2 ^ w ≡ n % 2 ^ j * 2 ^ (w - j)
upper w j n h =
    let i : ℕ = w - j in
    let width : w ≡ j + i = omega arith in
    ap (λ (m : ℕ). n * 2 ^ i % 2 ^ m) width
    ∙ mod-pow-add (n * 2 ^ i) j i
    ∙ ap₂ (λ (a b : ℕ). a % 2 ^ j * 2 ^ i + b) (shl-shr n i) (mul-mod_left n (2 ^ i))
    ∙ add-zero (n % 2 ^ j * 2 ^ i)

upper-shifts : (w j n : ℕ) → j ≤ w → shifts w (n * 2 ^ (w - j) % 2 ^ w) ≡ shifts j (n % 2 ^ j)
upper-shifts w j n h =
    let i : ℕ = w - j in
    let width : w ≡ i + j = omega arith in
    ap (shifts w) (upper w j n h)
    ∙ ap (λ (m : ℕ). shifts m (n % 2 ^ j * 2 ^ i)) width
    ∙ shifts-add i j (n % 2 ^ j * 2 ^ i)
    ∙ ap (shifts j) (shifts-up i (n % 2 ^ j))

-- none of them is among the lowest
upper-low : (w j k n : ℕ) → j + k ≤ w → n * 2 ^ (w - j) % 2 ^ w % 2 ^ k ≡ 0
upper-low w j k n h =
    let i : ℕ = w - j - k in
    let width : w - j ≡ i + k = omega arith in
    ap (λ (m : ℕ). m % 2 ^ k) (upper w j n (omega arith))
    ∙ ap (λ (m : ℕ). n % 2 ^ j * m % 2 ^ k) (ap (λ (m : ℕ). 2 ^ m) width ∙ pow-add 2 i k)
    ∙ ap (λ (m : ℕ). m % 2 ^ k) (sym (mul_assoc (n % 2 ^ j) (2 ^ i) (2 ^ k)))
    ∙ mul-mod_left (n % 2 ^ j * 2 ^ i) (2 ^ k)

-- what the bits that leave a word would have given
lost : ℕ → ℕ → ℕ
lost k n = bit_xor (shifts k (n % 2 ^ k)) (shifts (2 * k) (n % 2 ^ (2 * k)))

lost-lt : (k n : ℕ) → 2 * k ≤ 16 → lost k n < 65536
unfolding lost
lost-lt k n h = xor_lt 16 (shifts k (n % 2 ^ k)) (shifts (2 * k) (n % 2 ^ (2 * k))) (small k (omega arith)) (small (2 * k) h)
  where
    small : (j : ℕ) → j ≤ 16 → shifts j (n % 2 ^ j) < 65536
    small j g = shifts-lt j (n % 2 ^ j) (lt_of_lt_of_le (mod-lt n (pow_pos j)) (pow_mono g))

quotient : (k n : ℕ) → n / 2 ^ k ≡ bit_xor (shifts k n) (shifts k (n % 2 ^ k))
quotient k n = sym (ap (λ (m : ℕ). bit_xor m (shifts k (n % 2 ^ k))) (shifts-split k n) ∙ xor-undo (n / 2 ^ k) (shifts k (n % 2 ^ k)))

lowered-spread : (k n : ℕ) → lowered k n ≡ bit_xor (spread k n) (lost k n)
unfolding lowered lost
lowered-spread k n =
    ap₂ bit_xor (quotient k n) (quotient (2 * k) n)
    ∙ xor-swap (shifts k n) (shifts k (n % 2 ^ k)) (shifts (2 * k) n) (shifts (2 * k) (n % 2 ^ (2 * k)))
    ∙ ap (λ (m : ℕ). bit_xor m (lost k n)) (sym (spread-terms k n))

carried-shifts : (w k n : ℕ) → 4 * k ≤ w → shifts w (carried w k n) ≡ lost k n
unfolding carried lost
carried-shifts w k n h =
    shifts-linear w (n * 2 ^ (w - k) % 2 ^ w) (n * 2 ^ (w - 2 * k) % 2 ^ w)
    ∙ ap₂ bit_xor (upper-shifts w k n (omega arith)) (upper-shifts w (2 * k) n (omega arith))

carried-low : (w k n j : ℕ) → 4 * k ≤ w → j ≤ 2 * k → carried w k n % 2 ^ j ≡ 0
unfolding carried
carried-low w k n j h g =
    xor_mod (n * 2 ^ (w - k) % 2 ^ w) (n * 2 ^ (w - 2 * k) % 2 ^ w) j
    ∙ ap₂ bit_xor (upper-low w k j n (omega arith)) (upper-low w (2 * k) j n (omega arith))

lost-carried : (w k n m : ℕ) → 4 * k ≤ w → lost k (bit_xor n (carried w k m)) ≡ lost k n
unfolding lost
lost-carried w k n m h = ap₂ (λ (a b : ℕ). bit_xor (shifts k a) (shifts (2 * k) b)) (same k (omega arith)) (same (2 * k) (omega arith))
  where
    same : (j : ℕ) → j ≤ 2 * k → bit_xor n (carried w k m) % 2 ^ j ≡ n % 2 ^ j
    same j g = xor_mod n (carried w k m) j ∙ ap (bit_xor (n % 2 ^ j)) (carried-low w k m j h g) ∙ xor_zero_r (n % 2 ^ j)

-- ---- folding

-- what is lost at the lower end is what is carried to the upper
cancelled : (k : ℕ) → Factor k → (c m : ℕ) → c < 65536 → m < 65536
    → Alike (bit_xor (spread k c) (bit_xor (spread k m) (shifts (16 * k) m))) (shifts (16 * k) c)
cancelled k p c m hc hm =
    alike-cancel (spread k c) (shifts (16 * k) c) (spread k m) (shifts (16 * k) m) (sym (power k c p hc)) (sym (power k m p hm))

pub fold-alike : (k : ℕ) → Factor k → 2 * k ≤ 16 → (n : ℕ) → n < 2 ^ (16 * k) → Alike (shifts (16 * k) (fold k n)) (shifts (16 * k) (shifts (16 * k) n))
unfolding fold
fold-alike k p g n h =
    let w : ℕ = 16 * k in
    let c : ℕ = carried w k n in
    let m : ℕ = lost k n in
    let wide : 4 * k ≤ w = omega arith in
    let folded : fold k n ≡ bit_xor (bit_xor (spread k n) (spread k c)) m =
    lowered-spread k (bit_xor n c) ∙ ap₂ bit_xor (spread-linear k n c) (lost-carried w k n n wide) in
    let shifted : shifts w (fold k n) ≡ bit_xor (spread k (shifts w n)) (bit_xor (spread k m) (shifts w m)) =
    ap (shifts w) folded
    ∙ shifts-linear w (bit_xor (spread k n) (spread k c)) m
    ∙ ap (λ (a : ℕ). bit_xor a (shifts w m)) (shifts-linear w (spread k n) (spread k c))
    ∙ ap₂ (λ (a b : ℕ). bit_xor (bit_xor a b) (shifts w m)) (spread-shifts w k n) (spread-shifts w k c ∙ ap (spread k) (carried-shifts w k n wide))
    ∙ xor_assoc (spread k (shifts w n)) (spread k m) (shifts w m) in
    ap raised shifted ∙ cancelled k p (shifts w n) m (shifts-word w n h) (lost-lt k n g)

joined-below : (w l h : ℕ) → l < 2 ^ w → h < 2 ^ w → shifts w (joined w l h) < 65536
unfolding joined
joined-below w l h hl hh =
    let more : w ≤ 16 + w = omega arith in
    let wide : 16 ≤ 16 + w = omega arith in
    shifts-below w (bit_xor (shifts w l) h) (xor_lt (16 + w) (shifts w l) h (lt_of_lt_of_le (shifts-word w l hl) (pow_mono wide)) (lt_of_lt_of_le hh (pow_mono more)))

-- of two words, each of half as many bits: the second with what the first carries, and the first with what that carries
pub pair-alike : (k : ℕ) → Factor k → 2 * k ≤ 16 → (l h b : ℕ) → l < 2 ^ (8 * k) → h < 2 ^ (8 * k) → b ≡ bit_xor h (carried (8 * k) k l)
    → Alike (shifts (8 * k) (joined (8 * k) (bit_xor (lowered k l) (carried (8 * k) k b)) (lowered k b))) (shifts (16 * k) (shifts (8 * k) (joined (8 * k) l h)))
unfolding joined
pair-alike k p g l h b hl hh e =
    let w : ℕ = 8 * k in
    let c : ℕ = carried w k l in
    let m : ℕ = lost k l in
    let v : ℕ = joined w l h in
    let wide : 4 * k ≤ w = omega arith in
    let first : shifts w (bit_xor (lowered k l) (carried w k b)) ≡ bit_xor (bit_xor (spread k (shifts w l)) (shifts w m)) (lost k b) =
    shifts-linear w (lowered k l) (carried w k b)
    ∙ ap₂ bit_xor (ap (shifts w) (lowered-spread k l) ∙ shifts-linear w (spread k l) m ∙ ap (λ (a : ℕ). bit_xor a (shifts w m)) (spread-shifts w k l)) (carried-shifts w k b wide) in
    let both : joined w (bit_xor (lowered k l) (carried w k b)) (lowered k b) ≡ bit_xor (spread k v) (bit_xor (shifts w m) (spread k c)) =
    ap₂ bit_xor first (lowered-spread k b)
    ∙ xor-cancel (bit_xor (spread k (shifts w l)) (shifts w m)) (spread k b) (lost k b)
    ∙ ap (bit_xor (bit_xor (spread k (shifts w l)) (shifts w m))) (ap (spread k) e ∙ spread-linear k h c)
    ∙ xor-swap (spread k (shifts w l)) (shifts w m) (spread k h) (spread k c)
    ∙ ap (λ (a : ℕ). bit_xor a (bit_xor (shifts w m) (spread k c))) (sym (spread-linear k (shifts w l) h)) in
    let width : w + w ≡ 16 * k = omega arith in
    let twice : shifts w (shifts w m) ≡ shifts (16 * k) m = sym (shifts-add w w m) ∙ ap (λ (a : ℕ). shifts a m) width in
    let shifted : shifts w (joined w (bit_xor (lowered k l) (carried w k b)) (lowered k b)) ≡ bit_xor (spread k (shifts w v)) (bit_xor (spread k m) (shifts (16 * k) m)) =
    ap (shifts w) both
    ∙ shifts-linear w (spread k v) (bit_xor (shifts w m) (spread k c))
    ∙ ap₂ bit_xor (spread-shifts w k v)
    (shifts-linear w (shifts w m) (spread k c) ∙ ap₂ bit_xor twice (spread-shifts w k c ∙ ap (spread k) (carried-shifts w k l wide)) ∙ xor_comm (shifts (16 * k) m) (spread k m)) in
    ap raised shifted ∙ cancelled k p (shifts w v) m (joined-below w l h hl hh) (lost-lt k l g)

-- a word of two halves is folded to one half, where the lower is folded
pub halved : (w l h f : ℕ) → Alike (shifts w f) (shifts w (shifts w l)) → Alike (shifts w (bit_xor f h)) (shifts w (joined w l h))
unfolding joined
halved w l h f e =
    ap raised (shifts-linear w f h)
    ∙ alike-xor (shifts w f) (shifts w (shifts w l)) (shifts w h) (shifts w h) e refl
    ∙ ap raised (sym (shifts-linear w (shifts w l) h))

halves : (w n : ℕ) → shifts w (joined w (n % 2 ^ w) (n / 2 ^ w)) ≡ shifts (w + w) n
unfolding joined
halves w n = sym (shifts-add w w n ∙ ap (shifts w) (shifts-split w n ∙ xor_comm (n / 2 ^ w) (shifts w (n % 2 ^ w))))

carried-lt : (w k n : ℕ) → carried w k n < 2 ^ w
unfolding carried
carried-lt w k n =
    xor_lt w (n * 2 ^ (w - k) % 2 ^ w) (n * 2 ^ (w - 2 * k) % 2 ^ w) (mod-lt (n * 2 ^ (w - k)) (pow_pos w)) (mod-lt (n * 2 ^ (w - 2 * k)) (pow_pos w))

lowered-lt : (w k n : ℕ) → n < 2 ^ w → lowered k n < 2 ^ w
unfolding lowered
lowered-lt w k n h = xor_lt w (n / 2 ^ k) (n / 2 ^ (2 * k)) (lt_of_le_of_lt (shr_le n k) h) (lt_of_le_of_lt (shr_le n (2 * k)) h)

fold-lt : (k n : ℕ) → n < 2 ^ (16 * k) → fold k n < 2 ^ (16 * k)
unfolding fold
fold-lt k n h =
    let c : ℕ = carried (16 * k) k n in
    lowered-lt (16 * k) k (bit_xor n c) (xor_lt (16 * k) n c h (carried-lt (16 * k) k n))

-- the last 16 shifts
pub folded-last : (n : ℕ) → n < 65536 → Alike (fold 1 n) (shifts 16 n)
folded-last n h =
    let shifted : shifts 16 (raised (fold 1 n)) ≡ shifts 16 (raised (shifts 16 n)) =
    sym (raised-shifts 16 (fold 1 n)) ∙ fold-alike 1 factor-1 (lit≤ tt) n h ∙ raised-shifts 16 (shifts 16 n) in
    shifts-injective 16 (raised (fold 1 n)) (raised (shifts 16 n)) (raised_lt (fold 1 n) (fold-lt 1 n h)) (raised_lt (shifts 16 n) (shifts-lt 16 n h)) shifted

-- from two words to 16 bits, by halves
pub narrow-alike : (l h a b c r : ℕ) → Alike (shifts 64 a) (shifts 64 (shifts 64 l))
    → Alike (shifts 32 b) (shifts 32 (shifts 32 (bit_xor a h % 2 ^ 32)))
    → Alike c (shifts 16 (bit_xor b (bit_xor a h / 2 ^ 32) % 2 ^ 16))
    → Alike r (shifts 16 (bit_xor c (bit_xor b (bit_xor a h / 2 ^ 32) / 2 ^ 16)))
    → Alike r (shifts 64 (joined 64 l h))
narrow-alike l h a b c r e f g i =
    let n : ℕ = bit_xor a h in
    let m : ℕ = bit_xor b (n / 2 ^ 32) in
    i
    ∙ halved 16 (m % 2 ^ 16) (m / 2 ^ 16) c (alike-shifts 16 c (shifts 16 (m % 2 ^ 16)) g)
    ∙ ap raised (halves 16 m)
    ∙ halved 32 (n % 2 ^ 32) (n / 2 ^ 32) b f
    ∙ ap raised (halves 32 n)
    ∙ halved 64 l h a e

-- ---- the other factor

-- x^15 + x + 1 is the only number but 0 that x + 1 makes 0
even-root : (d : ℕ) → d % 2 ≡ 0 → raised d ≡ 0 → d ≡ 0
unfolding raised
even-root d o e =
    let half : d ≡ d / 2 = xor-equal d (shift d) e ∙ ap (λ (b : ℕ). bit_xor (d / 2) (feedback b)) o ∙ xor_zero_r (d / 2) in
    omega arith

odd-root : (d : ℕ) → d % 2 ≡ 1 → raised d ≡ 0 → d ≡ 0xC001
unfolding raised
odd-root d o e =
    let none : raised (bit_xor d 0xC001) ≡ 0 = raised-linear d 0xC001 ∙ ap (λ (a : ℕ). bit_xor a (raised 0xC001)) e in
    xor-equal d 0xC001 (even-root (bit_xor d 0xC001) (xor-odd d 0xC001 ∙ omega arith) none)

-- and it has the other parity
root-parity : (b d : ℕ) → d % 2 ≡ b → b < 2 → raised d ≡ 0 → ones 16 d % 2 ≡ 0 → d ≡ 0
unfolding ones
root-parity zero d o h e p = even-root d o e
root-parity (suc zero) d o h e p =
    let odd : ◌≡◌ {A = ℕ} 1 0 = ap (λ (n : ℕ). ones 16 n % 2) (sym (odd-root d o e)) ∙ p in
    absurd (omega arith)
root-parity (suc (suc b)) d o h e p = absurd (omega arith)

-- so numbers of 16 bits that are alike and have one parity are equal
pub alike-equal : (m n : ℕ) → Alike m n → ones 16 m % 2 ≡ ones 16 n % 2 → m ≡ n
alike-equal m n e p =
    let d : ℕ = bit_xor m n in
    let none : raised d ≡ 0 = raised-linear m n ∙ ap (λ (a : ℕ). bit_xor a (raised n)) e ∙ xor_self (raised n) in
    let even : ones 16 d % 2 ≡ 0 = ones-xor 16 m n ∙ omega (arith, p) in
    xor-equal m n (root-parity (d % 2) d refl (omega arith) none even)

three-ones : ones 16 0xC001 ≡ 3
unfolding ones
three-ones = refl

-- and one that is alike has the other parity
pub other-parity : (n : ℕ) → Alike (bit_xor n 0xC001) n × (ones 16 (bit_xor n 0xC001) % 2 ≡ (ones 16 n + 1) % 2)
unfolding raised
other-parity n =
    (raised-linear n 0xC001 ∙ xor_zero_r (raised n), ones-xor 16 n 0xC001 ∙ ap (λ (k : ℕ). (ones 16 n + k) % 2) three-ones ∙ omega arith)
