-- The place of a word among others, and what stands there.
use Rattle.std.specs.Prelude.{ℕ, suc, ◌≤◌, ◌≡◌, Bool, true, false, Option, List, [], ◌∷◌, length, slice_get, eqb}
use Rattle.wire.specs.Numbers.{pick}

unfoldable pub same_bytes : List ℕ → List ℕ → Bool
same_bytes [] [] = true
same_bytes [] (b ∷ t) = false
same_bytes (a ∷ s) [] = false
same_bytes (a ∷ s) (b ∷ t) = pick (eqb a b) (same_bytes s t) false

-- how many words stand before the first that is `w`; all of them if none is
unfoldable pub place_of : List ℕ → List (List ℕ) → ℕ
place_of w [] = 0
place_of w (word ∷ words) = pick (same_bytes w word) 0 (suc (place_of w words))

-- the place of a word that the system gave, of at most `most` bytes
pub record PlaceOfSome (most : ℕ) (words : List (List ℕ)) (place : ℕ) : Type 0 where
  pub word : List ℕ
  pub short : length word ≤ most
  pub found : place ≡ place_of word words
  pub within : place ≤ length words

-- what such a word stands for
pub record StandsFor {A : Type 0} (most : ℕ) (words : List (List ℕ)) (values : List A) (result : Option A) : Type 0 where
  pub place : ℕ
  pub some : PlaceOfSome most words place
  pub value : result ≡ slice_get values place
