-- Stores that keep inside the buffer: what would fall behind its end is left out.
use Prim.Native.Nat.{ℕ, zero, suc, ◌+◌, ◌≤◌, ◌/◌, ◌%◌}
use native.Mathlib.Omega.{arith}
use mathlib.Core.Path.{◌≡◌, refl, sym, ap, ◌∙◌}
use mathlib.Core.List.{List, [], ◌∷◌}
use lib.ListN.{length, take, set, length-set}
use lib.Seq.{sets, set_out}
use Rattle.wire.specs.Numbers.{le}

-- what reaches behind the end is not stored
pub sets-cut : (l : List ℕ) (at n : ℕ) (b : List ℕ) → length l ≤ at + n → sets l at (take n b) ≡ sets l at b
sets-cut l at zero [] h = refl
sets-cut l at (suc n) [] h = refl
sets-cut l at zero (x ∷ b) h = sets-cut l (suc at) zero b (omega arith) ∙ ap (λ (m : List ℕ). sets m (suc at) b) (sym (set_out l at x (omega arith)))
sets-cut l at (suc n) (x ∷ b) h = sets-cut (set l at x) (suc at) n b (simp length-set (omega arith))

pub le-cut : (n w v : ℕ) → n ≤ w → le n v ≡ take n (le w v)
unfolding le
le-cut zero w v h = refl
le-cut (suc n) zero v h = absurd (omega arith)
le-cut (suc n) (suc w) v h = ap (λ (l : List ℕ). v % 256 ∷ l) (le-cut n w (v / 256) (omega arith))
