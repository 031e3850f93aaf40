-- A number in decimal digits, written and read.
use Rattle.std.specs.Prelude.{None, Option, Some, ℕ, zero, suc, ◌+◌, ◌-◌, ◌*◌, ◌/◌, ◌%◌, List, [], ◌∷◌, ◌++◌, leb, ltb}
use Rattle.wire.specs.Numbers.{pick}
use Rattle.text.specs.Hex.{among}

-- of at most `most` digits
unfoldable pub decimal_in : ℕ → ℕ → List ℕ
decimal_in zero n = []
decimal_in (suc most) n = pick (ltb n 10) ((48 + n) ∷ []) (decimal_in most (n / 10) ++ ((48 + n % 10) ∷ []))

-- a number below 2 ^ 64 has at most 20 digits
unfoldable pub decimal : ℕ → List ℕ
decimal n = decimal_in 20 n

-- a decimal number whose first digits gave n, unless it is above the limit
unfoldable pub number_from : ℕ → ℕ → List ℕ → Option ℕ
number_from limit n [] = Some n
number_from limit n (c ∷ w) =
    pick (among 48 57 c)
    (pick (leb (n * 10 + (c - 48)) limit) (number_from limit (n * 10 + (c - 48)) w) None)
    None

unfoldable pub number_read : ℕ → List ℕ → Option ℕ
number_read limit [] = None
number_read limit (c ∷ w) = number_from limit 0 (c ∷ w)
