-- What a loop over the digits of a number has left to read.
use Rattle.std.specs.Prelude.{None, Some}
use Prim.Native.Nat.{ℕ, suc, ◌+◌, ◌-◌, ◌*◌, ◌≤◌, ◌<◌}
use native.Mathlib.Omega.{arith}
use mathlib.Core.Path.{◌≡◌, refl, sym}
use mathlib.Core.Bool.{true, false}
use Rattle.std.proofs.lemmas.Bool.{true≢false}
use lib.Dec.{eqb}
use mathlib.Core.List.{List, [], ◌∷◌}
use lib.ListN.{length, drop, get_or, drop_of_length-le}
use borrow.Author.Tests.{le-leb, lt-leb, eqb-true}
use Rattle.std.specs.Int.{IsOutOfRange}
use mathlib.Core.Logic.{inl, inr}
use Rattle.text.specs.Decimal.{number_from, number_read}
use Rattle.text.proofs.HexLaws.{next}

module _ (s : List ℕ) (i : ℕ) (inside : i < length s) where
  pub number-other : (limit n : ℕ) → IsOutOfRange 48 57 (get_or s i 0) → number_from limit n (drop i s) ≡ None
  unfolding number_from
  number-other limit n out = rw (next s i inside) (elim out [ inl e ↦ simp (lt-leb _ _ e) | inr e ↦ let low : 48 ≤ get_or s i 0 = omega arith in simp (le-leb _ _ low, lt-leb _ _ e) ])

  pub number-over : (limit n : ℕ) → 48 ≤ get_or s i 0 → get_or s i 0 ≤ 57 → limit < n * 10 + (get_or s i 0 - 48) → number_from limit n (drop i s) ≡ None
  unfolding number_from
  number-over limit n low high e = rw (next s i inside) (simp (le-leb _ _ low, le-leb _ _ high, lt-leb _ _ e))

  pub number-on : (limit n : ℕ) → 48 ≤ get_or s i 0 → get_or s i 0 ≤ 57 → n * 10 + (get_or s i 0 - 48) ≤ limit
      → number_from limit n (drop i s) ≡ number_from limit (n * 10 + (get_or s i 0 - 48)) (drop (i + 1) s)
  unfolding number_from
  number-on limit n low high e = rw (next s i inside) (simp (le-leb _ _ low, le-leb _ _ high, le-leb _ _ e))

pub number-first : (limit : ℕ) (w : List ℕ) → false ≡ eqb (length w) 0 → number_from limit 0 w ≡ number_read limit w
unfolding number_read
number-first limit [] h = absurd (true≢false (sym h))
number-first limit (c ∷ w) h = refl

pub number-none : (limit : ℕ) (w : List ℕ) → true ≡ eqb (length w) 0 → number_read limit w ≡ None
unfolding number_read
number-none limit [] h = refl
number-none limit (c ∷ w) h = absurd (omega (arith, eqb-true (suc (length w)) 0 (sym h)))

pub number-done : (limit n : ℕ) (w : List ℕ) (i : ℕ) → length w ≤ i → number_from limit n (drop i w) ≡ Some n
unfolding number_from
number-done limit n w i h = rw (drop_of_length-le w {i = i} h) refl
