-- Which way a test goes, and what an accepted answer tells of the tests on the way.
use Rattle.std.specs.Prelude.{Err, Ok}
use Prim.Native.Nat.{ℕ, ◌≤◌, ◌<◌}
use native.Mathlib.Nat.{zero-add}
use native.Mathlib.Omega.{arith}
use mathlib.Core.Path.{◌≡◌, refl, ap, ◌∙◌}
use mathlib.Core.Bool.{Bool, true, false}
use lib.Dec.{leb}
use borrow.Author.Tests.{leb-true, leb-false}
use Rattle.wire.specs.declared.Refusal.{Refusal}
use Rattle.wire.specs.Numbers.{pick}
use Rattle.wire.specs.Reading.{Read, got, bad}
use Rattle.wire.specs.Answers.{Answer, refusal_at, on_accepted, moved_by, from, told, unplaced, check_at}

pub pick_true : {A : Type 0} (test : Bool) (a b : A) → test ≡ true → pick test a b ≡ a
pick_true test a b e = simp e

pub pick-false : {A : Type 0} (test : Bool) (a b : A) → test ≡ false → pick test a b ≡ b
pick-false test a b e = simp e

pub pick-either : {A : Type 0} (P : A → Type 0) (test : Bool) (a b : A) → P a → P b → P (pick test a b)
pick-either P true a b h k = h
pick-either P false a b h k = k

pub both_true : (a b : Bool) → pick a b false ≡ true → (a ≡ true) × (b ≡ true)
both_true true b e = (refl, e)
both_true false b e = absurd (let z : ◌≡◌ {A = ℕ} 0 1 = cc in omega arith)

pub check-accepted : {A : Type 0} (test : Bool) (number place : ℕ) (rest : Answer A) {a : A} → check_at test number place rest ≡ Ok a → (test ≡ true) × (rest ≡ Ok a)
unfolding check_at
check-accepted true number place rest e = (refl, e)
check-accepted false number place rest e = absurd (let z : ◌≡◌ {A = ℕ} 0 1 = cc in omega arith)

pub check-passed : {A : Type 0} (test : Bool) (number place : ℕ) (rest : Answer A) → test ≡ true → check_at test number place rest ≡ rest
unfolding check_at
check-passed test number place rest e = simp e

pub check-failed : {A : Type 0} (test : Bool) (number place : ℕ) (rest : Answer A) → test ≡ false → check_at test number place rest ≡ Err (refusal_at number place)
unfolding check_at
check-failed test number place rest e = simp e

pub on_accepted-refused : {A B : Type 0} (r : Answer A) (f : A → Answer B) {x : Refusal} → r ≡ Err x → on_accepted r f ≡ Err x
unfolding on_accepted
on_accepted-refused r f e = ap (λ x. on_accepted x f) e

pub on_accepted-accepted : {A B : Type 0} (r : Answer A) (f : A → Answer B) {b : B} → on_accepted r f ≡ Ok b → (a : A) × (r ≡ Ok a) × (f a ≡ Ok b)
unfolding on_accepted
on_accepted-accepted (Ok a) f e = (a, refl, e)
on_accepted-accepted (Err x) f e = absurd (let z : ◌≡◌ {A = ℕ} 0 1 = cc in omega arith)

pub on_accepted-passed : {A B : Type 0} (r : Answer A) (f : A → Answer B) {a : A} → r ≡ Ok a → on_accepted r f ≡ f a
unfolding on_accepted
on_accepted-passed r f e = ap (λ x. on_accepted x f) e

-- a refusal of two steps of which the second never refuses is one of the first
pub first-refused : {A B : Type 0} (r : Answer A) (f : A → Answer B) {x : Refusal} → ((a : A) → r ≡ Ok a → (b : B) × (f a ≡ Ok b)) → on_accepted r f ≡ Err x → r ≡ Err x
unfolding on_accepted
first-refused (Ok a) f h e = absurd (let k = h a refl in let z : ◌≡◌ {A = ℕ} 0 1 = cc in omega arith)
first-refused (Err y) f h e = ap Err (cc)

pub told-accepted : {A : Type 0} (base : ℕ) (r : Read A) {a : A} → told base r ≡ Ok a → (n : ℕ) × (r ≡ got a n)
unfolding told
told-accepted base (got b n) e = (n, ap (λ x. got x n) (cc))
told-accepted base (bad x) e = absurd (let z : ◌≡◌ {A = ℕ} 0 1 = cc in omega arith)

pub told-refused : {A : Type 0} (base : ℕ) (r : Read A) {y : Refusal} → told base r ≡ Err y → (x : Refusal) × (r ≡ bad x) × (moved_by base x ≡ y)
unfolding told
told-refused base (got b n) e = absurd (let z : ◌≡◌ {A = ℕ} 0 1 = cc in omega arith)
told-refused base (bad x) e = (x, refl, cc)

pub told-bad : {A : Type 0} (base : ℕ) (r : Read A) {x : Refusal} → r ≡ bad x → told base r ≡ Err (moved_by base x)
unfolding told
told-bad base r e = ap (told base) e

-- what is read from the input's start
pub told-whole : {A : Type 0} (r : Read A) {x : Refusal} → r ≡ bad x → told 0 r ≡ Err x
told-whole r {x} e = told-bad 0 r e ∙ ap (λ (n : ℕ). Err (record { number = x.number; index = x.index; place = n })) (zero-add x.place)

pub told-got : {A : Type 0} (base : ℕ) (r : Read A) {a : A} {n : ℕ} → r ≡ got a n → told base r ≡ Ok a
unfolding told
told-got base r e = ap (told base) e

pub from-accepted : {A : Type 0} (base : ℕ) (r : Answer A) {a : A} → from base r ≡ Ok a → r ≡ Ok a
unfolding from
from-accepted base (Ok b) e = e
from-accepted base (Err x) e = absurd (let z : ◌≡◌ {A = ℕ} 0 1 = cc in omega arith)

-- what starts with the input
pub from_start : {A : Type 0} (r : Answer A) → from 0 r ≡ r
unfolding from
from_start (Ok a) = refl
from_start (Err x) = ap (λ (n : ℕ). Err (record { number = x.number; index = x.index; place = n })) (zero-add x.place)

pub from-passed : {A : Type 0} (base : ℕ) (r : Answer A) {a : A} → r ≡ Ok a → from base r ≡ Ok a
unfolding from
from-passed base r e = ap (from base) e

pub from-refused : {A : Type 0} (base : ℕ) (r : Answer A) {x : Refusal} → r ≡ Err x → from base r ≡ Err (moved_by base x)
unfolding from
from-refused base r e = ap (from base) e

pub unplaced-accepted : {A : Type 0} (r : Answer A) {a : A} → unplaced r ≡ Ok a → r ≡ Ok a
unfolding unplaced
unplaced-accepted (Ok b) e = e
unplaced-accepted (Err x) e = absurd (let z : ◌≡◌ {A = ℕ} 0 1 = cc in omega arith)

pub unplaced-passed : {A : Type 0} (r : Answer A) {a : A} → r ≡ Ok a → unplaced r ≡ Ok a
unfolding unplaced
unplaced-passed r e = ap unplaced e

-- it holds where the bytes are there, and where they are not
pub by_length : {P : Type 0} (m n : ℕ) → (m ≤ n → P) → (n < m → P) → P
by_length {P} m n h k = go (leb m n) refl
  where
    go : (b : Bool) → leb m n ≡ b → P
    go true e = h (leb-true m n e)
    go false e = k (leb-false m n e)
