-- Counting bits: how many are 1, and in how many two lists of bytes differ, compared place by place.
use Rattle.std.specs.Prelude.{ℕ, zero, suc, ◌+◌, ◌/◌, ◌%◌, List, [], ◌∷◌}
use Rattle.std.specs.Int.Bits.{bit_xor}

-- how many of the `k` lowest bits of `n` are 1
unfoldable pub ones : ℕ → ℕ → ℕ
ones zero n = 0
ones (suc k) n = n % 2 + ones k (n / 2)

-- how many bits of the bytes `s` are 1
unfoldable pub ones_of : List ℕ → ℕ
unfolding ones
ones_of [] = 0
ones_of (b ∷ bs) = ones 8 b + ones_of bs

-- in how many bits two lists of equally many bytes differ
unfoldable pub differing : List ℕ → List ℕ → ℕ
unfolding ones
differing [] q = 0
differing (a ∷ p) [] = 0
differing (a ∷ p) (b ∷ q) = ones 8 (bit_xor a b) + differing p q
