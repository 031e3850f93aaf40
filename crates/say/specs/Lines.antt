-- The lines of a text.
use Rattle.std.specs.Prelude.{ℕ, zero, suc, List, [], ◌∷◌, take, drop, eqb}
use Rattle.wire.specs.Numbers.{pick}

-- how long the first line is, with its end
unfoldable pub line_length : List ℕ → ℕ
line_length [] = 0
line_length (c ∷ s) = pick (eqb c 10) 1 (suc (line_length s))

-- the text from line `n` on, counted from 0
unfoldable pub from_line : ℕ → List ℕ → List ℕ
from_line zero s = s
from_line (suc n) s = from_line n (drop (line_length s) s)

-- line `n` with its end; nothing where there is no such line
unfoldable pub line_of : ℕ → List ℕ → List ℕ
line_of n s = take (line_length (from_line n s)) (from_line n s)
