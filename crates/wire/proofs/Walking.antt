-- Which way a walk goes at a field: on behind it where its bytes are there and it keeps its rule, else it stops.
use Rattle.std.specs.Prelude.{Err, Ok}
use Prim.Native.Nat.{ℕ, ◌+◌, ◌≤◌, ◌<◌}
use native.Mathlib.Omega.{arith}
use mathlib.Core.Path.{◌≡◌, ap, ◌∙◌}
use mathlib.Core.Bool.{Bool, false}
use mathlib.Core.List.{List}
use lib.ListN.{length, take, drop}
use lib.Dec.{leb}
use borrow.Author.Tests.{le-leb, lt-leb}
use Rattle.wire.specs.declared.Refusal.{Refusal}
use Rattle.wire.specs.Numbers.{number_at}
use Rattle.wire.specs.Reading.{Read, got, bad, walked, Reader, and_then, ◌>>=◌, ◌>>◌, pure, require, span, number, bytes, up_to}
use Rattle.wire.proofs.Exactness.{then-got, here-got, require-got}

-- a field's bytes are missing
abbrev pub short : ℕ → Refusal
short at = record { number = 8; index = 0; place = at }

pub then-bad : {A B : Type 0} (m : Reader A) (f : A → Reader B) (s : List ℕ) (at : ℕ) {x : Refusal} → m s at ≡ bad x → (m >>= f) s at ≡ bad x
unfolding ◌>>=◌ and_then
then-bad m f s at e = ap (λ r. and_then r (λ a next. f a s next)) e

pub next-bad : {A B : Type 0} (m : Reader A) (n : Reader B) (s : List ℕ) (at : ℕ) {x : Refusal} → m s at ≡ bad x → (m >> n) s at ≡ bad x
unfolding ◌>>◌
next-bad m n s at e = then-bad m (λ a. n) s at e

pub number-got : (w : ℕ) (s : List ℕ) (at : ℕ) → at + w ≤ length s → number w s at ≡ got (number_at s at w) (at + w)
unfolding number span and_then
number-got w s at h = simp (le-leb _ _ h)

pub number-bad : (w : ℕ) (s : List ℕ) (at : ℕ) → length s < at + w → number w s at ≡ bad (short at)
unfolding number span and_then
number-bad w s at h = simp (lt-leb _ _ h)

pub bytes-got : (n : ℕ) (s : List ℕ) (at : ℕ) → at + n ≤ length s → bytes n s at ≡ got (take n (drop at s)) (at + n)
unfolding bytes span and_then
bytes-got n s at h = simp (le-leb _ _ h)

pub bytes-bad : (n : ℕ) (s : List ℕ) (at : ℕ) → length s < at + n → bytes n s at ≡ bad (short at)
unfolding bytes span and_then
bytes-bad n s at h = simp (lt-leb _ _ h)

pub require-bad : {B : Type 0} (test : Bool) (number place : ℕ) (n : Reader B) (s : List ℕ) (at : ℕ) → test ≡ false
    → (require test number place >> n) s at ≡ bad (record { number = number; index = 0; place = place })
unfolding require
require-bad test number place n s at e = next-bad (require test number place) n s at (simp e)

module _ {B : Type 0} (f : ℕ → Reader B) (s : List ℕ) (at : ℕ) where
  pub number-there : (w : ℕ) → at + w ≤ length s → (number w >>= f) s at ≡ f (number_at s at w) s (at + w)
  number-there w h = then-got (number w) f s at (number-got w s at h)

  pub number-missing : (w : ℕ) → length s < at + w → (number w >>= f) s at ≡ bad (short at)
  number-missing w h = then-bad (number w) f s at (number-bad w s at h)

  pub up_to-there : (w most refusal : ℕ) → at + w ≤ length s → number_at s at w ≤ most → (up_to w most refusal >>= f) s at ≡ f (number_at s at w) s (at + w)
  unfolding up_to pure
  up_to-there w most refusal h k =
      then-got (up_to w most refusal) f s at
      (here-got _ s at ∙ then-got (number w) _ s at (number-got w s at h) ∙ require-got (leb (number_at s at w) most) refusal at _ s (at + w) (le-leb _ _ k))

  pub up_to-missing : (w most refusal : ℕ) → length s < at + w → (up_to w most refusal >>= f) s at ≡ bad (short at)
  unfolding up_to
  up_to-missing w most refusal h = then-bad (up_to w most refusal) f s at (here-got _ s at ∙ then-bad (number w) _ s at (number-bad w s at h))

  pub up_to-over : (w most refusal : ℕ) → at + w ≤ length s → most < number_at s at w
      → (up_to w most refusal >>= f) s at ≡ bad (record { number = refusal; index = 0; place = at })
  unfolding up_to
  up_to-over w most refusal h k =
      then-bad (up_to w most refusal) f s at
      (here-got _ s at ∙ then-got (number w) _ s at (number-got w s at h) ∙ require-bad (leb (number_at s at w) most) refusal at _ s (at + w) (lt-leb _ _ k))

-- what a walk tells of the reader that it follows
pub walked_on : {A : Type 0} (r : Read A) {next : ℕ} → walked r ≡ Ok next → (a : A) × (r ≡ got a next)
unfolding walked
walked_on (got a n) e = (a, ap (got a) (cc))
walked_on (bad x) e = absurd (let z : ◌≡◌ {A = ℕ} 0 1 = cc in omega arith)

pub walked-stopped : {A : Type 0} (r : Read A) {x : Refusal} → walked r ≡ Err x → r ≡ bad x
unfolding walked
walked-stopped (got a n) e = absurd (let z : ◌≡◌ {A = ℕ} 0 1 = cc in omega arith)
walked-stopped (bad y) e = ap bad (cc)

pub walked-got : {A : Type 0} (r : Read A) {a : A} {next : ℕ} → r ≡ got a next → walked r ≡ Ok next
unfolding walked
walked-got r e = ap walked e

pub walked-bad : {A : Type 0} (r : Read A) {x : Refusal} → r ≡ bad x → walked r ≡ Err x
unfolding walked
walked-bad r e = ap walked e
