-- What data packets and commands share: a codec, a count, a body, and the count again.
use Rattle.std.specs.Prelude.{ℕ, ◌-◌, List, [], ◌∷◌, length, take, drop, get_or}
use Rattle.wire.specs.Numbers.{be}
use Rattle.wire.specs.Sequences.{fields}

unfoldable pub enclosed : ℕ → ℕ → List ℕ → List ℕ
enclosed codec count body = fields (be 1 codec ∷ be 1 count ∷ body ∷ be 1 count ∷ [])

-- the parts of a data field of at least three bytes
unfoldable pub codec_of : List ℕ → ℕ
codec_of d = get_or d 0 0

unfoldable pub first_count : List ℕ → ℕ
first_count d = get_or d 1 0

unfoldable pub last_count : List ℕ → ℕ
last_count d = get_or d (length d - 1) 0

-- the space between the counts
unfoldable pub inner : List ℕ → List ℕ
inner d = take (length d - 3) (drop 2 d)
