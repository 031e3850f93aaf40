-- Numbers as bytes, at any width: big-endian as all protocol numbers, little-endian as in the TLV form, two's complement.
use Rattle.std.specs.Prelude.{ℕ, zero, suc, ◌+◌, ◌-◌, ◌*◌, ◌/◌, ◌%◌, ◌^◌, ◌<◌, Bool, true, false, List, [], ◌∷◌, ◌++◌, get_or, ltb, ℤ, pos, negsuc}

-- each element is a byte
abbrev pub Bytes : List ℕ → Type 0
Bytes [] = Unit {0}
Bytes (b ∷ bs) = (b < 256) × Bytes bs

-- the big-endian number in the `w` bytes of `s` from `at` on
unfoldable pub number_at : List ℕ → ℕ → ℕ → ℕ
number_at s at zero = 0
number_at s at (suc w) = number_at s at w * 256 + get_or s (at + w) 0

-- the `w` lowest digits of `n` to a base, the highest first
unfoldable pub digits : ℕ → ℕ → ℕ → List ℕ
digits base zero n = []
digits base (suc w) n = digits base w (n / base) ++ (n % base ∷ [])

-- the number that digits to a base give, read on from `n`
unfoldable pub value_from : ℕ → ℕ → List ℕ → ℕ
value_from base n [] = n
value_from base n (d ∷ ds) = value_from base (n * base + d) ds

-- `n` in `w` bytes, big-endian
abbrev pub be : ℕ → ℕ → List ℕ
be w n = digits 256 w n

-- the little-endian number in the `w` bytes of `s` from `at` on
unfoldable pub little_at : List ℕ → ℕ → ℕ → ℕ
little_at s at zero = 0
little_at s at (suc w) = get_or s at 0 + 256 * little_at s (at + 1) w

-- `n` in `w` bytes, little-endian
unfoldable pub le : ℕ → ℕ → List ℕ
le zero n = []
le (suc w) n = n % 256 ∷ le w (n / 256)

abbrev pub pick {ℓ} : {A : Type ℓ} → Bool → A → A → A
pick true a b = a
pick false a b = b

-- the two's complement meaning of the `w`-byte number `n`
unfoldable pub signed : ℕ → ℕ → ℤ
signed w n = pick (ltb n (2 ^ (8 * w - 1))) (pos n) (negsuc (2 ^ (8 * w) - suc n))
