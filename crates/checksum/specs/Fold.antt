-- Words of data modulo x^15 + x + 1: the CRC's polynomial is that times x + 1. As in the CRC, the lowest bit of a number is its highest power
-- of x, and a shift is a product with x.
use Rattle.std.specs.Prelude.{ℕ, zero, suc, ◌-◌, ◌%◌, ◌^◌, ◌<◌, ◌≤◌, ◌≡◌, List, length, get_or, drop}
use Rattle.std.specs.Int.Bits.{bit_xor}
use Rattle.checksum.specs.Crc.{shift, shifts, crc_from, crc}
use Rattle.checksum.specs.Bits.{ones}

-- times x + 1
unfoldable pub raised : ℕ → ℕ
unfolding shift
raised n = bit_xor n (shift n)

-- numbers of 16 bits that are equal modulo x^15 + x + 1: times x + 1 they are equal modulo the CRC's polynomial
abbrev pub Alike : ℕ → ℕ → Type 0
Alike m n = raised m ≡ raised n

-- two words of `w` bits as one number, after `w` shifts
unfoldable pub joined : ℕ → ℕ → ℕ → ℕ
unfolding shifts
joined w l h = bit_xor (shifts w l) h

-- `v` and the first `n` of the words `f` behind it, after 64 shifts for each
unfoldable pub chain : ℕ → (ℕ → ℕ) → ℕ → ℕ
unfolding joined
chain v f zero = v
chain v f (suc n) = joined 64 (chain v f n) (f n)

-- fifteen words of 64 bits
abbrev pub Fifteen : List ℕ → Type 0
Fifteen a = (length a ≡ 15) × ((i : ℕ) → get_or a i 0 < 2 ^ 64)

-- as one number
unfoldable pub held : List ℕ → ℕ
unfolding chain
held a = chain 0 (λ (i : ℕ). get_or a i 0) 15

-- The bytes of `s` before `at` are in `v`, but for its last 64 shifts, and have the parity of the word `p`: `c` is their CRC.
unfoldable pub Reached : List ℕ → ℕ → ℕ → ℕ → Type 0
unfolding shifts
Reached s at v p = (c : ℕ) × (c < 65536) × Alike c (shifts 64 v) × (ones 16 c % 2 ≡ ones 64 p % 2) × (crc_from c (drop at s) ≡ crc s)

-- and whole words are left
abbrev pub Ready : List ℕ → ℕ → ℕ → ℕ → Type 0
Ready s at v p = (at ≤ length s) × ((length s - at) % 8 ≡ 0) × Reached s at v p
