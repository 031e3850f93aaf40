-- A number's decimal digits: the last one, and how many there are.
use Prim.Native.Nat.{ℕ, zero, suc, ◌+◌, ◌/◌, ◌%◌, ◌^◌, ◌≤◌, ◌<◌}
use native.Mathlib.Omega.{arith}
use mathlib.Core.Path.{◌≡◌, sym, ap, ◌∙◌}
use mathlib.Core.List.{List, [], ◌∷◌, ◌++◌}
use lib.ListN.{length, length-append}
use lib.Dec.{ltb}
use borrow.Author.Tests.{lt-ltb, le-ltb}
use Rattle.wire.proofs.Accepting.{pick_true, pick-false, by_length}
use Rattle.text.specs.Decimal.{decimal_in, decimal}

-- ---- the last digit, and the digits before it

in_one : (k n : ℕ) → n < 10 → decimal_in (suc k) n ≡ (48 + n) ∷ []
unfolding decimal_in
in_one k n h = pick_true (ltb n 10) ((48 + n) ∷ []) (decimal_in k (n / 10) ++ ((48 + n % 10) ∷ [])) (lt-ltb n 10 h)

in-more : (k n : ℕ) → 10 ≤ n → decimal_in (suc k) n ≡ decimal_in k (n / 10) ++ ((48 + n % 10) ∷ [])
unfolding decimal_in
in-more k n h = pick-false (ltb n 10) ((48 + n) ∷ []) (decimal_in k (n / 10) ++ ((48 + n % 10) ∷ [])) (le-ltb n 10 h)

-- more digits than a number has are never asked for
in-enough : (k n : ℕ) → n < 10 ^ suc k → decimal_in (suc k) n ≡ decimal_in (suc (suc k)) n
in-enough zero n h = in_one 0 n (omega (arith, h)) ∙ sym (in_one 1 n (omega (arith, h)))
in-enough (suc k) n h =
    by_length 10 n
    (λ i. in-more (suc k) n i ∙ ap (λ (l : List ℕ). l ++ ((48 + n % 10) ∷ [])) (in-enough k (n / 10) (omega (arith, h))) ∙ sym (in-more (suc (suc k)) n i))
    (λ i. in_one (suc k) n i ∙ sym (in_one (suc (suc k)) n i))

pub decimal-one : (n : ℕ) → n < 10 → decimal n ≡ (48 + n) ∷ []
unfolding decimal
decimal-one n h = in_one 19 n h

pub decimal-more : (n : ℕ) → n < 10 ^ 20 → 10 ≤ n → decimal n ≡ decimal (n / 10) ++ ((48 + n % 10) ∷ [])
unfolding decimal
decimal-more n small h = in-more 19 n h ∙ ap (λ (l : List ℕ). l ++ ((48 + n % 10) ∷ [])) (in-enough 18 (n / 10) (omega (arith, small)))

-- ---- how many

in-most : (k n : ℕ) → length (decimal_in k n) ≤ k
unfolding decimal_in
in-most zero n = omega arith
in-most (suc k) n =
    by_length 10 n
    (λ i. omega (arith, ap length (in-more k n i), length-append (decimal_in k (n / 10)) ((48 + n % 10) ∷ []), in-most k (n / 10)))
    (λ i. omega (arith, ap length (in_one k n i)))

pub decimal-most : (n : ℕ) → length (decimal n) ≤ 20
unfolding decimal
decimal-most n = in-most 20 n

in-few : (k d n : ℕ) → n < 10 ^ suc d → length (decimal_in k n) ≤ suc d
unfolding decimal_in
in-few zero d n h = omega arith
in-few (suc k) zero n h = omega (arith, ap length (in_one k n (omega (arith, h))))
in-few (suc k) (suc d) n h =
    by_length 10 n
    (λ i. omega (arith, ap length (in-more k n i), length-append (decimal_in k (n / 10)) ((48 + n % 10) ∷ []), in-few k d (n / 10) (omega (arith, h))))
    (λ i. omega (arith, ap length (in_one k n i)))

pub decimal-few : (d n : ℕ) → n < 10 ^ suc d → length (decimal n) ≤ suc d
unfolding decimal
decimal-few d n h = in-few 20 d n h
