-- The table's rule, computed over all of its entries at once, and eight shifts by it.
use Prim.Native.Nat.{ℕ, zero, suc, ◌+◌, ◌/◌, ◌%◌, ◌<◌}
use native.Mathlib.Nat.{zero-add, add-zero, suc-add, add-suc, le_of_suc-le-suc}
use native.Mathlib.Omega.{arith}
use mathlib.Core.Path.{◌≡◌, refl, sym, ap, ◌∙◌}
use mathlib.Core.List.{List, [], ◌∷◌}
use lib.ListN.{length, get_or}
use lib.Bits.{bit_xor}
use Rattle.checksum.specs.Crc.{shifts, absorb, crc}
use Rattle.checksum.specs.Table.{CrcTable}
use Rattle.checksum.proofs.XorLaws.{xor-right}
use Rattle.checksum.proofs.ModuloLaws.{shifts-split}

-- ---- the rule

-- the CRCs of `n` single bytes, from `b` up
unfoldable pub singles : ℕ → ℕ → List ℕ
singles b zero = []
singles b (suc n) = crc (b ∷ []) ∷ singles (suc b) n

singles-length : (b n : ℕ) → length (singles b n) ≡ n
unfolding singles
singles-length b zero = refl
singles-length b (suc n) = ap suc (singles-length (suc b) n)

singles-at : (b n k : ℕ) → k < n → get_or (singles b n) k 0 ≡ crc ((b + k) ∷ [])
unfolding singles
singles-at b zero k h = absurd (omega arith)
singles-at b (suc n) zero h = ap (λ (m : ℕ). crc (m ∷ [])) (sym (add-zero b))
singles-at b (suc n) (suc k) h =
    singles-at (suc b) n k (le_of_suc-le-suc h) ∙ ap (λ (m : ℕ). crc (m ∷ [])) (suc-add b k ∙ sym (add-suc b k))

-- the list made by the rule has the rule
pub by-rule : (t : List ℕ) → t ≡ singles 0 256 → CrcTable t
unfolding CrcTable
by-rule t e =
    (ap length e ∙ singles-length 0 256, λ b h. ap (λ (l : List ℕ). get_or l b 0) e ∙ singles-at 0 256 b h ∙ ap (λ (m : ℕ). crc (m ∷ [])) (zero-add b))

-- ---- eight shifts

-- the high half of the state goes down, and the entry at its low half is what is shifted out
pub shifted : (t : List ℕ) → CrcTable t → (c : ℕ) → bit_xor (c / 256) (get_or t (c % 256) 0) ≡ shifts 8 c
unfolding CrcTable crc
shifted t r c = ap (bit_xor (c / 256)) (r.1 (c % 256) (omega arith)) ∙ sym (shifts-split 8 c)

-- with the next byte put in before the entry
pub shifted_next : (t : List ℕ) → CrcTable t → (c b : ℕ) → shifts 8 (bit_xor (bit_xor (c / 256) b) (get_or t (c % 256) 0)) ≡ absorb (shifts 8 c) b
unfolding absorb
shifted_next t r c b =
    let h : ℕ = c / 256 in
    let e : ℕ = get_or t (c % 256) 0 in
    ap (shifts 8) (xor-right h b e ∙ ap (λ (n : ℕ). bit_xor n b) (shifted t r c))
