-- Fields laid out one behind the other, a list written out element by element, and a fact of each of its elements.
use Rattle.std.specs.Prelude.{ℕ, List, [], ◌∷◌, ◌++◌}

-- the bytes of the fields, one behind the other
abbrev pub fields : List (List ℕ) → List ℕ
fields [] = []
fields (a ∷ []) = a
fields (a ∷ b ∷ l) = a ++ fields (b ∷ l)

abbrev pub joined : {A : Type 0} → (A → List ℕ) → List A → List ℕ
joined f [] = []
joined f (a ∷ l) = f a ++ joined f l

abbrev pub All : {A : Type 0} → (A → Type 0) → List A → Type 0
All P [] = Unit {0}
All P (a ∷ l) = P a × All P l
