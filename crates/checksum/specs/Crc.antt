-- CRC-16/IBM: start value 0, the bits of each byte from the lowest up, reversed polynomial A001, no final change.
use Rattle.std.specs.Prelude.{ℕ, zero, suc, ◌/◌, ◌%◌, List, [], ◌∷◌}
use Rattle.std.specs.Int.Bits.{bit_xor}

-- the polynomial, where the bit that is shifted out is 1
unfoldable pub feedback : ℕ → ℕ
feedback zero = 0
feedback (suc bit) = 0xA001

-- one bit is shifted out
unfoldable pub shift : ℕ → ℕ
unfolding feedback
shift c = bit_xor (c / 2) (feedback (c % 2))

unfoldable pub shifts : ℕ → ℕ → ℕ
unfolding shift
shifts zero c = c
shifts (suc k) c = shifts k (shift c)

-- the state after one byte more
unfoldable pub absorb : ℕ → ℕ → ℕ
unfolding shifts
absorb c b = shifts 8 (bit_xor c b)

unfoldable pub crc_from : ℕ → List ℕ → ℕ
unfolding absorb
crc_from c [] = c
crc_from c (b ∷ bs) = crc_from (absorb c b) bs

unfoldable pub crc : List ℕ → ℕ
unfolding crc_from
crc s = crc_from 0 s
