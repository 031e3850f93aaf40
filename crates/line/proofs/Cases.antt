-- A test goes one way or the other; and what holds of each of a list.
use Prim.Native.Nat.{ℕ, zero, suc}
use mathlib.Core.Path.{◌≡◌, refl}
use mathlib.Core.Bool.{Bool, true, false}
use mathlib.Core.List.{List, [], ◌∷◌}
use lib.ListN.{get_or}
use Rattle.wire.specs.Sequences.{All}

pub by-test : {P : Type 0} (t : Bool) → (t ≡ true → P) → (t ≡ false → P) → P
by-test true h k = h refl
by-test false h k = k refl

pub all-weaken : {A : Type 0} {P Q : A → Type 0} → ((a : A) → P a → Q a) → (l : List A) → All P l → All Q l
all-weaken f [] h = tt
all-weaken f (a ∷ l) h = (f a h.0, all-weaken f l h.1)

pub all_get_d : {A : Type 0} (P : A → Type 0) (l : List A) (n : ℕ) (d : A) → All P l → P d → P (get_or l n d)
all_get_d P [] n d h k = k
all_get_d P (a ∷ l) zero d h k = h.0
all_get_d P (a ∷ l) (suc n) d h k = all_get_d P l n d h.1 k
