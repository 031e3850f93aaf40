-- Bytes with zeros behind them: what a store and a clearing leave, and how zeros are told.
use Prim.Native.Nat.{ℕ, zero, suc, ◌+◌, ◌-◌, ◌≤◌, ◌<◌}
use native.Mathlib.Omega.{arith}
use mathlib.Core.Path.{◌≡◌, refl, sym, ap, ap₂, ◌∙◌}
use mathlib.Core.Bool.{Bool, true, false}
use mathlib.Core.List.{List, [], ◌∷◌, ◌++◌, append_assoc}
use lib.ListN.{length, take, drop, length-append, length-replicate, length-drop, take-append-drop, replicate-append-replicate}
use lib.Seq.{sets, sets-eq, take_all, take-append_seam, drop-append_seam, drop-append-add, length-take-le}
use lib.Bits.{bit_or, or_add_and, and_le_l, and_le_r}
use lib.Dec.{eqb}
use borrow.Author.Tests.{ne_eqb, eqb-true}
use Rattle.wire.specs.Numbers.{pick}
use Rattle.wire.proofs.Accepting.{both_true}
use Rattle.wire.proofs.BufferLaws.{sets-front}
use Rattle.connection.specs.State.{zeros, padded, is_zero}

-- ---- zeros

pub length-zeros : (n : ℕ) → length (zeros n) ≡ n
length-zeros n = length-replicate n 0

pub drop-zeros : (m n : ℕ) → drop m (zeros n) ≡ zeros (n - m)
drop-zeros zero n = let all : n ≡ n - 0 = omega arith in ap (λ (k : ℕ). zeros k) all
drop-zeros (suc m) zero = let none : 0 ≡ 0 - suc m = omega arith in ap (λ (k : ℕ). zeros k) none
drop-zeros (suc m) (suc n) = let left : n - m ≡ suc n - suc m = omega arith in drop-zeros m n ∙ ap (λ (k : ℕ). zeros k) left

-- what clearing the first `n` bytes leaves
pub zeros-front : (s : List ℕ) (n : ℕ) → n ≤ length s → zeros (length (take n s)) ++ drop n s ≡ sets s 0 (zeros n)
zeros-front s n h =
    ap₂ (λ (j k : ℕ). zeros j ++ drop k s) (length-take-le n s h) (sym (length-zeros n)) ∙ sym (sets-front (zeros n) s (omega (arith, length-zeros n, h)))

pub zeros-are : (n : ℕ) → is_zero (zeros n) ≡ true
unfolding is_zero
zeros-are zero = refl
zeros-are (suc n) = zeros-are n

pub are-zeros : (s : List ℕ) → is_zero s ≡ true → s ≡ zeros (length s)
unfolding is_zero
are-zeros [] e = refl
are-zeros (b ∷ s) e =
    let both = both_true (eqb b 0) (is_zero s) e in
    ap₂ (λ (x : ℕ) (l : List ℕ). x ∷ l) (eqb-true b 0 both.0) (are-zeros s both.1)

or-zero : (a b : ℕ) (r : Bool) → pick (eqb (bit_or a b) 0) r false ≡ pick (eqb a 0) (pick (eqb b 0) r false) false
or-zero zero b r = refl
or-zero (suc a) b r =
    let none : bit_or (suc a) b ≡ 0 → ⊥ = λ e. omega (arith, e, or_add_and (suc a) b, and_le_l (suc a) b, and_le_r (suc a) b) in
    simp (ne_eqb (bit_or (suc a) b) 0 none, ne_eqb (suc a) 0 (λ e. omega (arith, e)))

-- a byte joins those that were looked at
pub union-on : (all b : ℕ) (s : List ℕ) → pick (eqb (bit_or all b) 0) (is_zero s) false ≡ pick (eqb all 0) (is_zero (b ∷ s)) false
unfolding is_zero
union-on all b s = or-zero all b (is_zero s)

pub union-done : (all : ℕ) → pick (eqb all 0) (is_zero []) false ≡ eqb all 0
unfolding is_zero
union-done all = go (eqb all 0)
  where
    go : (b : Bool) → pick b true false ≡ b
    go true = refl
    go false = refl

-- ---- the parts that are lent

pub front-part : (s : List ℕ) (n : ℕ) → take (n - 0) (drop 0 s) ≡ take n s
front-part s n = let all : n - 0 ≡ n = omega arith in ap (λ (k : ℕ). take k s) all

pub rest_part : (s : List ℕ) (n : ℕ) → take (length s - n) (drop n s) ≡ drop n s
rest_part s n = take_all (length s - n) (drop n s) (omega (arith, length-drop n s))

-- ---- bytes with zeros behind them

module _ (room : ℕ) where
  pub length-padded : (s : List ℕ) → length s ≤ room → length (padded room s) ≡ room
  unfolding padded
  length-padded s h = omega (arith, length-append s (zeros (room - length s)), length-zeros (room - length s))

  pub take-padded : (s : List ℕ) → take (length s) (padded room s) ≡ s
  unfolding padded
  take-padded s = take-append_seam s (zeros (room - length s))

  pub spare-padded : (s : List ℕ) → is_zero (drop (length s) (padded room s)) ≡ true
  unfolding padded
  spare-padded s = ap is_zero (drop-append_seam s (zeros (room - length s))) ∙ zeros-are (room - length s)

  -- bytes whose spare ones are zero
  pub is-padded : (s : List ℕ) (n : ℕ) → length s ≡ room → n ≤ room → is_zero (drop n s) ≡ true → s ≡ padded room (take n s)
  unfolding padded
  is-padded s n size h e =
      let front : length (take n s) ≡ n = length-take-le n s (omega arith) in
      let spare : length (drop n s) ≡ room - length (take n s) = omega (arith, length-drop n s, front) in
      sym (take-append-drop n s) ∙ ap (λ (l : List ℕ). take n s ++ l) (are-zeros (drop n s) e ∙ ap (λ (k : ℕ). zeros k) spare)

  -- bytes stored over what stands behind the first ones, as far as that goes and farther
  pub store-padded : (h a b : List ℕ) → length a ≤ length b → length h + length b ≤ room → sets (padded room (h ++ a)) (length h) b ≡ padded room (h ++ b)
  unfolding padded
  store-padded h a b less fits =
      let z = zeros (room - length (h ++ a)) in
      let l = (h ++ a) ++ z in
      let extra = length b - length a in
      let size : length l ≡ room = omega (arith, length-append (h ++ a) z, length-zeros (room - length (h ++ a)), length-append h a) in
      let front : take (length h) l ≡ h = ap (take (length h)) (append_assoc h a z) ∙ take-append_seam h (a ++ z) in
      let place : length h + length b ≡ length (h ++ a) + extra = omega (arith, length-append h a) in
      let left : room - length (h ++ a) - extra ≡ room - length (h ++ b) = omega (arith, length-append h a, length-append h b) in
      let back : drop (length h + length b) l ≡ zeros (room - length (h ++ b)) =
      ap (λ (k : ℕ). drop k l) place ∙ drop-append-add (h ++ a) z extra ∙ drop-zeros extra (room - length (h ++ a)) ∙ ap (λ (k : ℕ). zeros k) left
      in
      sets-eq b l (length h) (omega arith) ∙ ap₂ (λ (x y : List ℕ). (x ++ b) ++ y) front back

  -- cleared
  pub clear-padded : (s : List ℕ) (n : ℕ) → length s ≤ n → n ≤ room → sets (padded room s) 0 (zeros n) ≡ padded room []
  unfolding padded
  clear-padded s n less fits =
      let size = length-zeros n in
      let rest : room - length (zeros n) ≡ room - n = omega arith in
      let all : n + (room - n) ≡ room - 0 = omega arith in
      store-padded [] s (zeros n) (omega arith) (omega arith)
      ∙ ap (λ (k : ℕ). zeros n ++ zeros k) rest
      ∙ replicate-append-replicate n (room - n) 0
      ∙ ap (λ (k : ℕ). zeros k) all
