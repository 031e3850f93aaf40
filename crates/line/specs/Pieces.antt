-- Text taken apart at a byte.
use Rattle.std.specs.Prelude.{ℕ, ◌+◌, List, [], ◌∷◌, ◌++◌, eqb}
use Rattle.wire.specs.Numbers.{pick}

-- the bytes before the first `c`; all where there is none
unfoldable pub before : ℕ → List ℕ → List ℕ
before c [] = []
before c (b ∷ s) = pick (eqb b c) [] (b ∷ before c s)

-- the bytes behind it; none where there is none
unfoldable pub behind : ℕ → List ℕ → List ℕ
behind c [] = []
behind c (b ∷ s) = pick (eqb b c) s (behind c s)

-- one more byte in front of the first piece
unfoldable pub onto : ℕ → List (List ℕ) → List (List ℕ)
onto b [] = (b ∷ []) ∷ []
onto b (p ∷ ps) = (b ∷ p) ∷ ps

-- what stands between the commas (44)
unfoldable pub pieces : List ℕ → List (List ℕ)
pieces [] = [] ∷ []
pieces (b ∷ s) = pick (eqb b 44) ([] ∷ pieces s) (onto b (pieces s))

-- pieces with commas between them
unfoldable pub separated : List (List ℕ) → List ℕ
separated [] = []
separated (p ∷ []) = p
separated (p ∷ q ∷ ps) = p ++ (44 ∷ separated (q ∷ ps))

-- how often a byte occurs
unfoldable pub count : ℕ → List ℕ → ℕ
count c [] = 0
count c (b ∷ s) = pick (eqb b c) 1 0 + count c s
