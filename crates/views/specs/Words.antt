-- The words of a line, each one space behind the one before.
use Rattle.std.specs.Prelude.{None, Option, Some, ◌≡◌, ℕ, zero, suc, ◌+◌, ◌≤◌, List, [], ◌∷◌, length, ◌==◌}
use Rattle.wire.specs.Numbers.{pick}
use Rattle.text.specs.Hex.{hex_bytes}

unfoldable pub spaces : List ℕ → ℕ
spaces [] = 0
spaces (c ∷ s) = pick (c == 32) (1 + spaces s) (spaces s)

-- before the first space
unfoldable pub first_word : List ℕ → List ℕ
first_word [] = []
first_word (c ∷ s) = pick (c == 32) [] (c ∷ first_word s)

-- behind the first space; nothing if there is none
unfoldable pub behind_word : List ℕ → List ℕ
behind_word [] = []
behind_word (c ∷ s) = pick (c == 32) s (behind_word s)

unfoldable pub word_at : ℕ → List ℕ → List ℕ
word_at zero s = first_word s
word_at (suc k) s = word_at k (behind_word s)

-- so many bytes, which fit
abbrev pub Counted : ℕ → Option ℕ → List ℕ → Type 0
Counted room (Some n) w = (n ≡ length (hex_bytes w)) × (n ≤ room)
Counted room None w = Unit {0}
