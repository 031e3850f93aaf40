-- Fifteen words a step: x^960 = x^64 + 1 modulo x^15 + x + 1.
use Prim.Native.Nat.{ℕ, zero, suc, ◌+◌, ◌*◌, ◌^◌, ◌<◌, ◌≤◌}
use native.Mathlib.Nat.{eq-or-lt_of_le}
use native.Mathlib.Numerals.{add-one}
use native.Mathlib.Omega.{arith}
use mathlib.Core.Path.{◌≡◌, refl, sym, ap, ap₂, ◌∙◌, subst}
use mathlib.Core.List.{List, [], ◌∷◌}
use mathlib.Core.Logic.{⊎_elim}
use lib.ListN.{length, get_or, set, replicate, length-set}
use lib.Dec.{lit<, lit≤}
use lib.Seq.{get_or-set_same, get_or-set_other}
use lib.Bits.{bit_xor, xor_comm, xor_zero_l, xor_zero_r, xor_lt, xor_assoc}
use Rattle.wire.specs.Numbers.{Bytes, little_at}
use Rattle.wire.proofs.Widths.{little-lt}
use Rattle.checksum.specs.Crc.{shifts}
use Rattle.checksum.specs.Fold.{raised, Alike, joined, chain, Fifteen, held, Reached}
use Rattle.checksum.proofs.XorLaws.{xor-swap, xor-right, xor-undo}
use Rattle.checksum.proofs.CrcLaws.{shifts-linear}
use Rattle.checksum.proofs.ModuloLaws.{shifts-add, shifts-comm, shifts-word, alike-xor, alike-cancel, beside, beside-linear, beside-shifts, factor-64}
use Rattle.checksum.proofs.WordLaws.{state-fits, otherwise, behind, next_word, two-words}

-- ---- words in a row

chain-ext : (v : ℕ) (f g : ℕ → ℕ) (n : ℕ) → ((i : ℕ) → i < n → f i ≡ g i) → chain v f n ≡ chain v g n
unfolding chain
chain-ext v f g zero e = refl
chain-ext v f g (suc n) e = ap₂ (joined 64) (chain-ext v f g n (λ i h. e i (omega arith))) (e n (omega arith))

-- behind `v` and behind nothing
chain-from : (v : ℕ) (f : ℕ → ℕ) (n : ℕ) → chain v f n ≡ bit_xor (shifts (64 * n) v) (chain 0 f n)
unfolding chain
chain-from v f zero = sym (xor_zero_r v)
chain-from v f (suc n) =
    let width : 64 * n + 64 ≡ 64 * suc n = omega arith in
    let c : ℕ = chain 0 f n in
    ap (λ (m : ℕ). bit_xor (shifts 64 m) (f n)) (chain-from v f n)
    ∙ ap (λ (m : ℕ). bit_xor m (f n)) (shifts-linear 64 (shifts (64 * n) v) c)
    ∙ xor_assoc (shifts 64 (shifts (64 * n) v)) (shifts 64 c) (f n)
    ∙ ap (λ (m : ℕ). bit_xor m (bit_xor (shifts 64 c) (f n))) (sym (shifts-add (64 * n) 64 v) ∙ ap (λ (k : ℕ). shifts k v) width)

chain-linear : (f g h : ℕ → ℕ) (n : ℕ) → ((i : ℕ) → i < n → h i ≡ bit_xor (f i) (g i)) → chain 0 h n ≡ bit_xor (chain 0 f n) (chain 0 g n)
unfolding chain
chain-linear f g h zero e = refl
chain-linear f g h (suc n) e =
    ap₂ (joined 64) (chain-linear f g h n (λ i b. e i (omega arith))) (e n (omega arith))
    ∙ ap (λ (m : ℕ). bit_xor m (bit_xor (f n) (g n))) (shifts-linear 64 (chain 0 f n) (chain 0 g n))
    ∙ xor-swap (shifts 64 (chain 0 f n)) (shifts 64 (chain 0 g n)) (f n) (g n)

-- the first word and those behind it
chain_first : (f : ℕ → ℕ) (n : ℕ) → chain 0 f (suc n) ≡ chain (f 0) (λ (i : ℕ). f (suc i)) n
unfolding chain
chain_first f zero = xor_zero_l (f 0)
chain_first f (suc n) = ap (λ (m : ℕ). joined 64 m (f (suc n))) (chain_first f n)

chain-lt : (f : ℕ → ℕ) (n : ℕ) → ((i : ℕ) → f i < 2 ^ 64) → chain 0 f n < 2 ^ 64
unfolding chain
chain-lt f zero h = lit< tt
chain-lt f (suc n) h =
    xor_lt 64 (shifts 64 (chain 0 f n)) (f n) (state-fits (shifts-word 64 (chain 0 f n) (chain-lt f n h))) (h n)

-- ---- fifteen of them

-- The last word with the first, then each with its neighbour behind, and a word of data.
pub record Folded (a b c w : ℕ → ℕ) : Type 0 where
  pub fits : (i : ℕ) → a i < 2 ^ 64
  pub same : (i : ℕ) → i < 14 → b i ≡ a i
  pub last : b 14 ≡ bit_xor (a 14) (a 0)
  pub pairs : (i : ℕ) → i < 14 → c i ≡ bit_xor (bit_xor (b i) (b (suc i))) (w i)
  pub end : c 14 ≡ bit_xor (b 14) (w 14)

-- the words with the first in the last
with_first : (a b c w : ℕ → ℕ) → Folded a b c w → chain 0 b 15 ≡ bit_xor (chain 0 a 15) (a 0)
unfolding chain
with_first a b c w f =
    ap₂ (joined 64) (chain-ext 0 b a 14 f.same) f.last ∙ sym (xor_assoc (shifts 64 (chain 0 a 14)) (a 14) (a 0))

-- the words, and their neighbours behind
with-next : (a b c w : ℕ → ℕ) → Folded a b c w
    → chain 0 c 15 ≡ bit_xor (bit_xor (chain 0 b 15) (shifts 64 (chain 0 (λ (i : ℕ). b (suc i)) 14))) (chain 0 w 15)
unfolding chain
with-next a b c w f =
    let d : ℕ → ℕ = λ (i : ℕ). b (suc i) in
    let e : ℕ → ℕ = λ (i : ℕ). bit_xor (b i) (d i) in
    let both : chain 0 e 14 ≡ bit_xor (chain 0 b 14) (chain 0 d 14) = chain-linear b d e 14 (λ i h. refl) in
    let b14 : ℕ = shifts 64 (chain 0 b 14) in
    let d14 : ℕ = shifts 64 (chain 0 d 14) in
    let w14 : ℕ = shifts 64 (chain 0 w 14) in
    let first : shifts 64 (chain 0 c 14) ≡ bit_xor (bit_xor b14 d14) w14 =
    ap (shifts 64) (chain-linear e w c 14 f.pairs)
    ∙ shifts-linear 64 (chain 0 e 14) (chain 0 w 14)
    ∙ ap (λ (m : ℕ). bit_xor m w14) (ap (shifts 64) both ∙ shifts-linear 64 (chain 0 b 14) (chain 0 d 14)) in
    ap₂ bit_xor first f.end
    ∙ xor-swap (bit_xor b14 d14) w14 (b 14) (w 14)
    ∙ ap (λ (m : ℕ). bit_xor m (bit_xor w14 (w 14))) (xor-right b14 d14 (b 14))

-- so it is the words times x^64 + 1, but for the first word, and the data
folded : (a b c w : ℕ → ℕ) → Folded a b c w
    → chain 0 c 15 ≡ bit_xor (bit_xor (beside 64 (chain 0 a 15)) (bit_xor (beside 64 (a 0)) (shifts 960 (a 0)))) (chain 0 w 15)
unfolding beside
folded a b c w f =
    let n : ℕ = chain 0 a 15 in
    let m : ℕ = chain 0 b 15 in
    let d : ℕ = chain 0 (λ (i : ℕ). b (suc i)) 14 in
    let x : ℕ = shifts 896 (b 0) in
    let rest : d ≡ bit_xor m x =
    sym (ap (λ (k : ℕ). bit_xor k x) (chain_first b 14 ∙ chain-from (b 0) (λ (i : ℕ). b (suc i)) 14 ∙ xor_comm x d) ∙ xor-undo d x) in
    let first : shifts 64 x ≡ shifts 960 (a 0) = sym (shifts-add 896 64 (b 0)) ∙ ap (shifts 960) (f.same 0 (lit< tt)) in
    let shifted : shifts 64 d ≡ bit_xor (shifts 64 m) (shifts 960 (a 0)) = ap (shifts 64) rest ∙ shifts-linear 64 m x ∙ ap (bit_xor (shifts 64 m)) first in
    let all : bit_xor m (shifts 64 d) ≡ bit_xor (beside 64 n) (bit_xor (beside 64 (a 0)) (shifts 960 (a 0))) =
    ap (bit_xor m) shifted
    ∙ sym (xor_assoc m (shifts 64 m) (shifts 960 (a 0)))
    ∙ ap (λ (k : ℕ). bit_xor k (shifts 960 (a 0))) (xor_comm m (shifts 64 m) ∙ ap (beside 64) (with_first a b c w f) ∙ beside-linear 64 n (a 0))
    ∙ xor_assoc (beside 64 n) (beside 64 (a 0)) (shifts 960 (a 0)) in
    with-next a b c w f ∙ ap (λ (k : ℕ). bit_xor k (chain 0 w 15)) all

pub fifteen : (a b c w : ℕ → ℕ) → Folded a b c w → Alike (shifts 64 (chain (chain 0 a 15) w 15)) (shifts 64 (chain 0 c 15))
fifteen a b c w f =
    let n : ℕ = shifts 64 (chain 0 a 15) in
    let m : ℕ = shifts 64 (a 0) in
    let v : ℕ = shifts 64 (chain 0 w 15) in
    let left : shifts 64 (chain (chain 0 a 15) w 15) ≡ bit_xor (shifts 960 n) v =
    ap (shifts 64) (chain-from (chain 0 a 15) w 15)
    ∙ shifts-linear 64 (shifts 960 (chain 0 a 15)) (chain 0 w 15)
    ∙ ap (λ (k : ℕ). bit_xor k v) (shifts-comm 64 960 (chain 0 a 15)) in
    let extra : ℕ = bit_xor (beside 64 m) (shifts 960 m) in
    let right : shifts 64 (chain 0 c 15) ≡ bit_xor (bit_xor (beside 64 n) extra) v =
    ap (shifts 64) (folded a b c w f)
    ∙ shifts-linear 64 (bit_xor (beside 64 (chain 0 a 15)) (bit_xor (beside 64 (a 0)) (shifts 960 (a 0)))) (chain 0 w 15)
    ∙ ap (λ (k : ℕ). bit_xor k v)
    (shifts-linear 64 (beside 64 (chain 0 a 15)) (bit_xor (beside 64 (a 0)) (shifts 960 (a 0)))
    ∙ ap₂ bit_xor (beside-shifts 64 64 (chain 0 a 15))
    (shifts-linear 64 (beside 64 (a 0)) (shifts 960 (a 0)) ∙ ap₂ bit_xor (beside-shifts 64 64 (a 0)) (shifts-comm 64 960 (a 0)))) in
    let same : Alike (bit_xor (beside 64 n) extra) (shifts 960 n) =
    alike-cancel (beside 64 n) (shifts 960 n) (beside 64 m) (shifts 960 m)
    (sym (factor-64 n (shifts-word 64 (chain 0 a 15) (chain-lt a 15 f.fits))))
    (sym (factor-64 m (shifts-word 64 (a 0) (f.fits 0)))) in
    ap raised left ∙ alike-xor (shifts 960 n) (bit_xor (beside 64 n) extra) v v (sym same) refl ∙ ap raised (sym right)

-- ---- of data

-- the parity of more words
unfoldable pub gathered : ℕ → (ℕ → ℕ) → ℕ → ℕ
gathered p f zero = p
gathered p f (suc n) = bit_xor (gathered p f n) (f n)

-- the words of `s` from `at` on
abbrev pub words_at : List ℕ → ℕ → ℕ → ℕ
words_at s at i = little_at s (at + 8 * i) 8

next-words : (s : List ℕ) (at v p n : ℕ) → Bytes s → at + 8 * n ≤ length s → Reached s at v p → Reached s (at + 8 * n) (chain v (words_at s at) n) (gathered p (words_at s at) n)
unfolding chain gathered
next-words s at v p zero d f r = subst (λ (m : ℕ). Reached s m v p) (omega arith) r
next-words s at v p (suc n) d f r =
    let place : at + 8 * n + 8 ≡ at + 8 * suc n = omega arith in
    subst (λ (m : ℕ). Reached s m (chain v (words_at s at) (suc n)) (gathered p (words_at s at) (suc n))) place
    (next_word s (at + 8 * n) (chain v (words_at s at) n) (gathered p (words_at s at) n) (words_at s at n) d (omega arith) (little-lt s (at + 8 * n) 8 d) refl
    (next-words s at v p n d (omega arith) r))

pub next-fifteen : (s : List ℕ) (at p q : ℕ) (a b c : List ℕ) → Bytes s → at + 120 ≤ length s
    → Folded (λ (i : ℕ). get_or a i 0) (λ (i : ℕ). get_or b i 0) (λ (i : ℕ). get_or c i 0) (words_at s at) → q ≡ gathered p (words_at s at) 15
    → Reached s at (held a) p → Reached s (at + 120) (held c) q
unfolding held
next-fifteen s at p q a b c d f g e r =
    otherwise s (at + 120) (chain (held a) (words_at s at) 15) (held c) q (fifteen (λ (i : ℕ). get_or a i 0) (λ (i : ℕ). get_or b i 0) (λ (i : ℕ). get_or c i 0) (words_at s at) g)
    (subst (Reached s (at + 120) (chain (held a) (words_at s at) 15)) (sym e) (next-words s at (held a) p 15 d f r))

-- ---- the loop over fifteen words

-- the words before `k` are folded into `v`, those from `k` on are as in `b`, and `p` has the parity of the data read
abbrev pub Turning : List ℕ → List ℕ → ℕ → ℕ → List ℕ → ℕ → ℕ → Type 0
Turning b s at q v p k =
    (k ≤ 14) × Fifteen v × ((i : ℕ) → i < k → get_or v i 0 ≡ bit_xor (bit_xor (get_or b i 0) (get_or b (suc i) 0)) (words_at s at i))
    × ((i : ℕ) → k ≤ i → get_or v i 0 ≡ get_or b i 0) × (p ≡ gathered q (words_at s at) k)

set_below : (l : List ℕ) (i x m : ℕ) → ((j : ℕ) → get_or l j 0 < m) → x < m → (j : ℕ) → get_or (set l i x) j 0 < m
set_below [] i x m h k j = h j
set_below (y ∷ l) zero x m h k zero = k
set_below (y ∷ l) zero x m h k (suc j) = h (suc j)
set_below (y ∷ l) (suc i) x m h k zero = h 0
set_below (y ∷ l) (suc i) x m h k (suc j) = set_below l i x m (λ n. h (suc n)) k j

pub set-fifteen : (l : List ℕ) (i x : ℕ) → Fifteen l → x < 2 ^ 64 → Fifteen (set l i x)
set-fifteen l i x h k = (length-set l i x ∙ h.0, set_below l i x (2 ^ 64) h.1 k)

pub turning-start : (b s : List ℕ) (at p : ℕ) → Fifteen b → Turning b s at p b p 0
unfolding gathered
turning-start b s at p h = (lit≤ tt, h, λ i f. absurd (omega arith), λ i f. refl, refl)

pub turning-next : (b s : List ℕ) (at q : ℕ) (v : List ℕ) (p k w : ℕ) → Turning b s at q v p k → k < 14 → w < 2 ^ 64 → w ≡ words_at s at k
    → Turning b s at q (set v k (bit_xor (get_or v k 0) (bit_xor (get_or v (k + 1) 0) w))) (bit_xor p w) (k + 1)
unfolding gathered
turning-next b s at q v p k w (f, h, done, left, parity) g hw e =
    let x : ℕ = bit_xor (get_or v k 0) (bit_xor (get_or v (k + 1) 0) w) in
    let hx : x < 2 ^ 64 = xor_lt 64 (get_or v k 0) (bit_xor (get_or v (k + 1) 0) w) (h.1 k) (xor_lt 64 (get_or v (k + 1) 0) w (h.1 (k + 1)) hw) in
    let one : k + 1 ≡ suc k = add-one k in
    let new : get_or (set v k x) k 0 ≡ bit_xor (bit_xor (get_or b k 0) (get_or b (suc k) 0)) (words_at s at k) =
    get_or-set_same v k x 0 (omega (arith, h.0)) ∙ sym (xor_assoc (get_or v k 0) (get_or v (k + 1) 0) w) ∙ ap₂ (λ (m n : ℕ). bit_xor m n) (ap₂ bit_xor (left k (omega arith)) (left (k + 1) (omega arith) ∙ ap (λ (i : ℕ). get_or b i 0) one)) e in (
      omega arith,
      set-fifteen v k x h hx,
      λ i r. ⊎_elim
          (λ same. subst (λ (n : ℕ). get_or (set v k x) n 0 ≡ bit_xor (bit_xor (get_or b n 0) (get_or b (suc n) 0)) (words_at s at n)) (sym same) new)
          (λ less. get_or-set_other v k i x 0 (λ same. omega arith) ∙ done i less)
          (eq-or-lt_of_le (le-of-lt-suc i k r)),
      λ i r. get_or-set_other v k i x 0 (λ same. omega arith) ∙ left i (omega arith),
      ap₂ bit_xor parity e ∙ ap (gathered q (words_at s at)) (sym one),
    )
  where
    le-of-lt-suc : (i k : ℕ) → i < k + 1 → i ≤ k
    le-of-lt-suc i k r = omega arith

-- at the end: the last word with the first, and a word of data
pub turning-end : (a s : List ℕ) (at q : ℕ) (v : List ℕ) (p k w : ℕ) → Fifteen a → Turning (set a 14 (bit_xor (get_or a 14 0) (get_or a 0 0))) s at q v p k → 14 ≤ k → w ≡ words_at s at 14
    → Folded (λ (i : ℕ). get_or a i 0) (λ (i : ℕ). get_or (set a 14 (bit_xor (get_or a 14 0) (get_or a 0 0))) i 0) (λ (i : ℕ). get_or (set v 14 (bit_xor (get_or v 14 0) w)) i 0) (words_at s at)
turning-end a s at q v p k w ha (f, h, done, left, parity) g e =
    let x : ℕ = bit_xor (get_or a 14 0) (get_or a 0 0) in
    let y : ℕ = bit_xor (get_or v 14 0) w in
    record {
      fits = ha.1;
      same = λ i r. get_or-set_other a 14 i x 0 (λ n. omega arith);
      last = get_or-set_same a 14 x 0 (omega (arith, ha.0));
      pairs = λ i r. get_or-set_other v 14 i y 0 (λ n. omega arith) ∙ done i (omega arith);
      end = get_or-set_same v 14 y 0 (omega (arith, h.0)) ∙ ap₂ bit_xor (left 14 (omega arith)) e;
    }

-- and its parity
pub gathered_next : (b s : List ℕ) (at q : ℕ) (v : List ℕ) (p k w : ℕ) → Turning b s at q v p k → 14 ≤ k → w ≡ words_at s at 14 → bit_xor p w ≡ gathered q (words_at s at) 15
unfolding gathered
gathered_next b s at q v p k w (f, h, done, left, parity) g e =
    let all : k ≡ 14 = omega arith in
    ap₂ bit_xor (parity ∙ ap (gathered q (words_at s at)) all) e

-- ---- at the start

pub zeros : Fifteen (replicate {A = ℕ} 15 0)
zeros = (refl, λ i. small 15 i)
  where
    small : (n i : ℕ) → get_or (replicate {A = ℕ} n 0) i 0 < 2 ^ 64
    small zero i = lit< tt
    small (suc n) zero = lit< tt
    small (suc n) (suc i) = small n i

-- a word alone is the last
pub held-last : (s : List ℕ) (at v p : ℕ) → Reached s at v p → Reached s at (held (set (replicate {A = ℕ} 15 0) 14 v)) p
unfolding held
held-last s at v p r = subst (λ (n : ℕ). Reached s at n p) (sym (xor_zero_l v)) r

-- ---- in two words

pub chain-two : (v : List ℕ) (k l h a b : ℕ) → Alike (shifts 64 (joined 64 a b)) (shifts 128 (shifts 64 (joined 64 l h)))
    → Alike (shifts 64 (chain 0 (λ (i : ℕ). get_or v i 0) k)) (shifts 64 (joined 64 l h))
    → Alike (shifts 64 (chain 0 (λ (i : ℕ). get_or v i 0) (k + 2))) (shifts 64 (joined 64 (bit_xor a (get_or v k 0)) (bit_xor b (get_or v (k + 1) 0))))
unfolding chain
chain-two v k l h a b e r =
    let f : ℕ → ℕ = λ (i : ℕ). get_or v i 0 in
    let two : k + 2 ≡ suc (suc k) = omega arith in
    let n : ℕ = joined 64 l h in
    let one : Alike (shifts 64 (joined 64 (chain 0 f k) (f k))) (shifts 64 (joined 64 n (f k))) = behind (shifts 64 (chain 0 f k)) (shifts 64 n) (f k) r in
    ap (λ (m : ℕ). raised (shifts 64 (chain 0 f m))) two
    ∙ behind (shifts 64 (joined 64 (chain 0 f k) (f k))) (shifts 64 (joined 64 n (f k))) (f (suc k)) one
    ∙ two-words a b n (f k) (f (suc k)) e
    ∙ ap (λ (m : ℕ). raised (shifts 64 (joined 64 (bit_xor a (f k)) (bit_xor b (f m))))) (sym (add-one k))
