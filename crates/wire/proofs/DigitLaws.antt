-- Digits read one after another: what one byte gives, and the number that they give with those before them.
use Rattle.std.specs.Prelude.{Err, Ok}
use Prim.Native.Nat.{ℕ, suc, ◌+◌, ◌-◌, ◌*◌, ◌^◌, ◌≤◌, ◌<◌}
use native.Mathlib.Nat.{pow-suc, pow-succ', pow-le-pow_right, mul_assoc, mul_comm, one-le-pow, mul-le-mul_right, le-mul_of_pos_right, le_trans}
use native.Mathlib.Omega.{arith}
use mathlib.Core.Path.{◌≡◌, refl, sym, ap, ◌∙◌, subst}
use mathlib.Core.Bool.{Bool, true, false}
use mathlib.Core.List.{List, ◌∷◌}
use lib.ListN.{length, get_or}
use Rattle.wire.specs.declared.Refusal.{Refusal}
use Rattle.wire.specs.Numbers.{Bytes, value_from}
use Rattle.wire.specs.Reading.{Read, got, bad, numbered, Reader, and_then, ◌>>=◌, ◌>>◌, pure, here, require, number, repeat}
use Rattle.wire.proofs.Exactness.{here-got, require-got, Exact}
use Rattle.wire.proofs.Shifts.{number-one}
use Rattle.wire.proofs.Walking.{short, require-bad, number-there, number-missing}

-- what the code's number tells of the reader that it follows
pub numbered_of : (r : Read ℕ) {n next : ℕ} → numbered r ≡ Ok (n, next) → r ≡ got n next
unfolding numbered
numbered_of (got a k) {n} {next} e =
    let pair : ◌≡◌ {A = ℕ × ℕ} (a, k) (n, next) = cc in
    ap (λ (p : ℕ × ℕ). got p.0 p.1) pair
numbered_of (bad x) e = absurd (let z : ◌≡◌ {A = ℕ} 0 1 = cc in omega arith)

pub numbered-unread : (r : Read ℕ) {x : Refusal} → numbered r ≡ Err x → r ≡ bad x
unfolding numbered
numbered-unread (got n k) e = absurd (let z : ◌≡◌ {A = ℕ} 0 1 = cc in omega arith)
numbered-unread (bad y) e = cc

pub numbered-got : (r : Read ℕ) {n next : ℕ} → r ≡ got n next → numbered r ≡ Ok (n, next)
unfolding numbered
numbered-got r e = ap numbered e

pub numbered-bad : (r : Read ℕ) {x : Refusal} → r ≡ bad x → numbered r ≡ Err x
unfolding numbered
numbered-bad r e = ap numbered e

-- one byte, of which the test must hold, and the digit that it gives
abbrev pub one_digit : (ℕ → Bool) → (ℕ → ℕ) → Reader ℕ
one_digit test digit = do
  start ← here
  c ← number 1
  require (test c) 15 start
  pure (digit c)

module _ (test : ℕ → Bool) (digit : ℕ → ℕ) (s : List ℕ) (at : ℕ) where
  pub digit-missing : length s < at + 1 → numbered (one_digit test digit s at) ≡ Err (short at)
  digit-missing h = numbered-bad _ (here-got _ s at ∙ number-missing _ s at 1 h)

  pub digit-wrong : at + 1 ≤ length s → test (get_or s at 0) ≡ false → numbered (one_digit test digit s at) ≡ Err (record { number = 15; index = 0; place = at })
  digit-wrong h e =
      numbered-bad _ (here-got _ s at ∙ number-there _ s at 1 h ∙ require-bad _ 15 at _ s (at + 1) (ap test (number-one s at) ∙ e))

  pub digit-right : at + 1 ≤ length s → test (get_or s at 0) ≡ true → numbered (one_digit test digit s at) ≡ Ok ((digit (get_or s at 0)), (at + 1))
  unfolding pure
  digit-right h e =
      numbered-got _
      (here-got _ s at ∙ number-there _ s at 1 h ∙ require-got _ 15 at _ s (at + 1) (ap test (number-one s at) ∙ e) ∙ ap (λ (c : ℕ). got (digit c) (at + 1)) (number-one s at))

-- the number that `n` digits to a base give behind the digits that gave `value`
abbrev pub digits_from : Reader ℕ → ℕ → ℕ → ℕ → Reader ℕ
digits_from m base n value = do
  ds ← repeat n m
  pure (value_from base value ds)

module _ (m : Reader ℕ) (base n value : ℕ) (s : List ℕ) (at : ℕ) where
  digits_more : {d next : ℕ} → m s at ≡ got d next → digits_from m base (suc n) value s at ≡ digits_from m base n (value * base + d) s next
  unfolding repeat ◌>>=◌ and_then pure value_from
  digits_more {d} {next} e = simp e (rest (repeat n m s next))
    where
      rest : (r : Read (List ℕ))
          → and_then (and_then r (λ l k. got (d ∷ l) k)) (λ ds k. got (value_from base value ds) k) ≡ and_then r (λ ds k. got (value_from base (value * base + d) ds) k)
      rest (got l k) = refl
      rest (bad x) = refl

  digits-bad : {x : Refusal} → m s at ≡ bad x → digits_from m base (suc n) value s at ≡ bad x
  unfolding repeat ◌>>=◌ and_then pure
  digits-bad e = simp e

-- a loop over digits, `left` of them to come: where it stands, that its number stays below `most`, and what it will answer
pub record DigitsLeft (m : Reader ℕ) (base most left value : ℕ) (s : List ℕ) (at : ℕ) (answer : Read ℕ) : Type 0 where
  pub inside : at ≤ length s
  pub room : suc value * base ^ left ≤ most
  pub rest : digits_from m base left value s at ≡ answer

pub room-first : (base k : ℕ) {n value : ℕ} → 0 < base → value < base → n < k → suc value * base ^ n ≤ base ^ k
room-first base k {n} {value} pos h few =
    le_trans (mul-le-mul_right (base ^ n) h) (subst (λ (x : ℕ). x ≤ base ^ k) (pow-succ' base n) (pow-le-pow_right pos few))

-- before the first of `n` digits
pub digits-start : (m : Reader ℕ) (base n : ℕ) {most value at : ℕ} {s : List ℕ} → at ≤ length s → suc value * base ^ n ≤ most
    → DigitsLeft m base most (n - 0) value s at (digits_from m base n value s at)
digits-start m base n {most} {value} {at} {s} h k =
    let all : n ≡ n - 0 = omega arith in
    subst (λ (x : ℕ). DigitsLeft m base most x value s at (digits_from m base n value s at)) all (record { inside = h; room = k; rest = refl })

room-more : (base n value d most : ℕ) → d < base → suc value * base ^ suc n ≤ most → suc (value * base + d) * base ^ n ≤ most
room-more base n value d most h k =
    let wider : suc (value * base + d) ≤ suc value * base = omega arith in
    let same : suc value * base * base ^ n ≡ suc value * base ^ suc n =
    mul_assoc (suc value) base (base ^ n) ∙ ap (λ (x : ℕ). suc value * x) (mul_comm base (base ^ n) ∙ sym (pow-suc base n))
    in
    le_trans (mul-le-mul_right (base ^ n) wider) (subst (λ (x : ℕ). x ≤ most) (sym same) k)

module _ {m : Reader ℕ} {base most left value at : ℕ} {s : List ℕ} {answer : Read ℕ} (some : 0 < left) (now : DigitsLeft m base most left value s at answer) where
  one_more : suc (left - 1) ≡ left
  one_more = omega arith

  -- one digit more
  pub digits-turn : {write : ℕ → List ℕ} {d next : ℕ} → Exact m write (λ d. d < base) → Bytes s → m s at ≡ got d next
      → DigitsLeft m base most (left - 1) (value * base + d) s next answer
  digits-turn {d = d} {next = next} exact h e =
      let k = (exact.sound s at h now.inside).if-got d next e in
      record {
        inside = k.0.inside;
        room = room-more base (left - 1) value d most k.1 (subst (λ (n : ℕ). suc value * base ^ n ≤ most) (sym one_more) now.room);
        rest = sym (digits_more m base (left - 1) value s at e) ∙ ap (λ (n : ℕ). digits_from m base n value s at) one_more ∙ now.rest;
      }

  pub digits-stop : {x : Refusal} → m s at ≡ bad x → answer ≡ bad x
  digits-stop e = sym now.rest ∙ ap (λ (n : ℕ). digits_from m base n value s at) (sym one_more) ∙ digits-bad m base (left - 1) value s at e

-- the number is below the bound
pub digits-below : {m : Reader ℕ} {base most left value at : ℕ} {s : List ℕ} {answer : Read ℕ} → 0 < base
    → DigitsLeft m base most left value s at answer → value < most
digits-below {base = base} {left = left} {value = value} h now = le_trans (le-mul_of_pos_right (suc value) (one-le-pow left base h)) now.room

pub digits-done : {m : Reader ℕ} {base most left value at : ℕ} {s : List ℕ} {answer : Read ℕ} → left ≡ 0
    → DigitsLeft m base most left value s at answer → answer ≡ got value at
unfolding repeat ◌>>=◌ and_then pure value_from
digits-done {m} {base} {value = value} {at = at} {s = s} e now = sym now.rest ∙ ap (λ (n : ℕ). digits_from m base n value s at) e
