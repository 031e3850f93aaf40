-- Decimal digits: how many a number has, the last ones, and how they are stored.
use Prim.Native.Nat.{ℕ, zero, suc, ◌+◌, ◌-◌, ◌*◌, ◌/◌, ◌%◌, ◌^◌, ◌≤◌, ◌<◌}
use native.Mathlib.Nat.{lt_of_lt_of_le}
use native.Mathlib.Omega.{arith}
use mathlib.Core.Path.{◌≡◌, sym, ap, ◌∙◌}
use mathlib.Core.List.{List, [], ◌∷◌, ◌++◌}
use lib.ListN.{length, length-append, set}
use lib.Seq.{sets}
use Rattle.wire.proofs.Storing.{sets-snoc}
use Rattle.text.specs.Decimal.{decimal}
use Rattle.text.proofs.DecimalLaws.{decimal-one, decimal-more, decimal-few}

-- ---- how many

bytes-digits : (w : ℕ) → 256 ^ w ≤ 10 ^ (3 * w)
bytes-digits zero = omega arith
bytes-digits (suc w) =
    let more : 3 * suc w ≡ suc (suc (suc (3 * w))) = omega arith in
    let much : 10 ^ (3 * suc w) ≡ 10 ^ suc (suc (suc (3 * w))) = ap (λ (k : ℕ). 10 ^ k) more in
    omega (arith, bytes-digits w, much)

-- three digits at most for each byte
pub decimal-bytes : (w n : ℕ) → 1 ≤ w → n < 256 ^ w → length (decimal n) ≤ 3 * w
decimal-bytes zero n some h = absurd (omega arith)
decimal-bytes (suc w) n some h =
    let more : 3 * suc w ≡ suc (3 * w + 2) = omega arith in
    let much : 10 ^ (3 * suc w) ≡ 10 ^ suc (3 * w + 2) = ap (λ (k : ℕ). 10 ^ k) more in
    omega (arith, decimal-few (3 * w + 2) n (lt_of_lt_of_le h (omega (arith, bytes-digits (suc w), much))))

-- ---- two digits, and four

pub decimal-two : (n : ℕ) → n < 2 ^ 64 → 100 ≤ n → decimal n ≡ (decimal (n / 100) ++ ((48 + n % 100 / 10) ∷ [])) ++ ((48 + n % 100 % 10) ∷ [])
decimal-two n small h =
    let high : n / 10 / 10 ≡ n / 100 = omega arith in
    let tens : n / 10 % 10 ≡ n % 100 / 10 = omega arith in
    let ones : n % 10 ≡ n % 100 % 10 = omega arith in
    decimal-more n (omega (arith, small)) (omega arith)
    ∙ ap (λ (l : List ℕ). l ++ ((48 + n % 10) ∷ [])) (decimal-more (n / 10) (omega (arith, small)) (omega arith))
    ∙ (λ i. (decimal (high i) ++ ((48 + tens i) ∷ [])) ++ ((48 + ones i) ∷ []))

pub long-two : (n : ℕ) → n < 2 ^ 64 → 100 ≤ n → length (decimal n) ≡ length (decimal (n / 100)) + 2
long-two n small h =
    omega (arith, ap length (decimal-two n small h), length-append (decimal (n / 100) ++ ((48 + n % 100 / 10) ∷ [])) ((48 + n % 100 % 10) ∷ []), length-append (decimal (n / 100)) ((48 + n % 100 / 10) ∷ []))

pub long-four : (n : ℕ) → n < 2 ^ 64 → 10000 ≤ n → length (decimal n) ≡ length (decimal (n / 10000)) + 4
long-four n small h =
    let high : n / 100 / 100 ≡ n / 10000 = omega arith in
    omega (arith, long-two n small (omega arith), long-two (n / 100) (omega (arith, small)) (omega arith), ap (λ (k : ℕ). length (decimal k)) high)

pub long-one : (n : ℕ) → n < 10 → length (decimal n) ≡ 1
long-one n h = ap length (decimal-one n h)

pub long-last : (n : ℕ) → n < 2 ^ 64 → 10 ≤ n → length (decimal n) ≡ length (decimal (n / 10)) + 1
long-last n small h = omega (arith, ap length (decimal-more n (omega (arith, small)) h), length-append (decimal (n / 10)) ((48 + n % 10) ∷ []))

pub long-pair : (n : ℕ) → n < 100 → 10 ≤ n → length (decimal n) ≡ 2
long-pair n h i = omega (arith, long-last n (omega (arith, h)) i, long-one (n / 10) (omega (arith, h)))

pub long-three : (n : ℕ) → n < 1000 → 100 ≤ n → length (decimal n) ≡ 3
long-three n h i = omega (arith, long-two n (omega (arith, h)) i, long-one (n / 100) (omega (arith, h)))

pub long-whole : (n : ℕ) → n < 10000 → 1000 ≤ n → length (decimal n) ≡ 4
long-whole n h i = omega (arith, long-two n (omega (arith, h)) (omega (arith, i)), long-pair (n / 100) (omega (arith, h)) (omega (arith, i)))

-- ---- what a loop has left to store

pub decimal-left : (l : List ℕ) (to next n : ℕ) → n < 2 ^ 64 → 100 ≤ n → next ≡ to + length (decimal n)
    → (next - 2 ≡ to + length (decimal (n / 100)))
    × (sets l to (decimal n) ≡ sets (set (set l (next - 2 + 1) (48 + n % 100 % 10)) (next - 2) (48 + n % 100 / 10)) to (decimal (n / 100)))
decimal-left l to next n small h e =
    let x = decimal (n / 100) in
    let a = 48 + n % 100 / 10 in
    let b = 48 + n % 100 % 10 in
    let place : next - 2 ≡ to + length x = omega (arith, e, long-two n small h) in
    let behind : to + length (x ++ (a ∷ [])) ≡ next - 2 + 1 = omega (arith, place, length-append x (a ∷ [])) in (
      place,
      ap (sets l to) (decimal-two n small h)
          ∙ sets-snoc l to (x ++ (a ∷ [])) b
          ∙ ap (λ (j : ℕ). sets (set l j b) to (x ++ (a ∷ []))) behind
          ∙ sets-snoc (set l (next - 2 + 1) b) to x a
          ∙ ap (λ (j : ℕ). sets (set (set l (next - 2 + 1) b) j a) to x) (sym place),
    )

-- the last two
pub decimal-pair : (l : List ℕ) (to n : ℕ) → n < 100 → 10 ≤ n → sets l to (decimal n) ≡ set (set l (to + 1) (48 + n % 10)) to (48 + n / 10)
decimal-pair l to n h i =
    let is = decimal-more n (omega (arith, h)) i ∙ ap (λ (x : List ℕ). x ++ ((48 + n % 10) ∷ [])) (decimal-one (n / 10) (omega (arith, h))) in
    ap (sets l to) is ∙ sets-snoc l to ((48 + n / 10) ∷ []) (48 + n % 10)

pub decimal-single : (l : List ℕ) (to n : ℕ) → n < 10 → sets l to (decimal n) ≡ set l to (48 + n)
decimal-single l to n h = ap (sets l to) (decimal-one n h)
