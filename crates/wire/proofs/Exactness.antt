-- What readers read is what stands there, and what stands there is read: `Exact m write Rules` says that the reader `m`
-- gives `a` exactly where the bytes `write a` stand and `a` keeps the rule `Rules`.
use Prim.Native.Nat.{ℕ, zero, suc, ◌+◌, ◌^◌, ◌≤◌, ◌<◌}
use native.Mathlib.Nat.{add-zero}
use native.Mathlib.Omega.{arith}
use mathlib.Core.Path.{◌≡◌, refl, sym, ap, ap₂, ◌∙◌, subst, subst₂}
use mathlib.Core.Bool.{Bool, true, false}
use mathlib.Core.List.{List, [], ◌∷◌}
use lib.ListN.{length, take, drop, length-drop}
use lib.Seq.{length-take-le}
use lib.Dec.{leb}
use borrow.Author.Tests.{le-leb, leb-true}
use Rattle.wire.specs.declared.Refusal.{Refusal}
use Rattle.wire.specs.Numbers.{Bytes, be, pick}
use Rattle.wire.specs.Sequences.{joined, All}
use Rattle.wire.specs.Reading.{Read, got, bad, Reader, and_then, ◌>>=◌, ◌>>◌, pure, here, require, span, number, bytes, up_to, repeat}
use Rattle.wire.proofs.Widths.{be-number, number-be, number_lt, length_digits, bytes_take, bytes_drop}
use Rattle.wire.proofs.Placed.{Between, between-nil, between_join, between_split, between-moved, between-take, between_is}

-- whatever was read meets Q
pub record Meets {A : Type 0} (r : Read A) (Q : A → ℕ → Type 0) : Type 0 where
  pub if-got : (a : A) (n : ℕ) → r ≡ got a n → Q a n

pub and_then-got : {A B : Type 0} (r : Read A) (f : A → ℕ → Read B) (b : B) (n : ℕ) → and_then r f ≡ got b n
    → (a : A) × (mid : ℕ) × (r ≡ got a mid) × (f a mid ≡ got b n)
unfolding and_then
and_then-got (got a mid) f b n e = (a, mid, refl, e)
and_then-got (bad x) f b n e = absurd (let z : ◌≡◌ {A = ℕ} 0 1 = cc in omega arith)

pub meets-then : {A B : Type 0} (m : Reader A) (f : A → Reader B) (s : List ℕ) (at : ℕ) {P : A → ℕ → Type 0} {Q : B → ℕ → Type 0}
    → Meets (m s at) P → ((a : A) (n : ℕ) → P a n → Meets (f a s n) Q) → Meets ((m >>= f) s at) Q
unfolding ◌>>=◌
meets-then m f s at h k =
    record {
      if-got = λ b n e.
          let i = and_then-got (m s at) (λ a next. f a s next) b n e in
          (k i.0 i.1 (h.if-got i.0 i.1 i.2)).if-got b n i.3;
    }

pub meets-next : {A B : Type 0} (m : Reader A) (n : Reader B) (s : List ℕ) (at : ℕ) {P : A → ℕ → Type 0} {Q : B → ℕ → Type 0}
    → Meets (m s at) P → ((a : A) (mid : ℕ) → P a mid → Meets (n s mid) Q) → Meets ((m >> n) s at) Q
unfolding ◌>>◌
meets-next m n s at h k = meets-then m (λ a. n) s at h k

pub meets-weaken : {A : Type 0} {r : Read A} {P Q : A → ℕ → Type 0} → Meets r P → ((a : A) (n : ℕ) → P a n → Q a n) → Meets r Q
meets-weaken h k = record { if-got = λ a n e. k a n (h.if-got a n e) }

pub meets-got : {A : Type 0} {Q : A → ℕ → Type 0} (a : A) (next : ℕ) → Q a next → Meets (got a next) Q
meets-got {A} {Q} a next h =
    record {
      if-got = λ b n e.
          let same : a ≡ b = cc in
          let end : next ≡ n = cc in
          subst₂ Q same end h;
    }

pub meets-pure : {A : Type 0} {Q : A → ℕ → Type 0} (a : A) (s : List ℕ) (at : ℕ) → Q a at → Meets (pure a s at) Q
unfolding pure
meets-pure a s at h = meets-got a at h

pub meets-pick : {A : Type 0} {Q : A → ℕ → Type 0} (test : Bool) (r : Read A) (x : Refusal) → (test ≡ true → Meets r Q) → Meets (pick test r (bad x)) Q
meets-pick true r x h = h refl
meets-pick false r x h = record { if-got = λ b n e. absurd (let z : ◌≡◌ {A = ℕ} 0 1 = cc in omega arith) }

pub meets-here : (s : List ℕ) (at : ℕ) → Meets (here s at) (λ a next. (a ≡ at) × (next ≡ at))
unfolding here
meets-here s at = meets-got at at (refl, refl)

pub meets-require : (test : Bool) (number place : ℕ) (s : List ℕ) (at : ℕ) → Meets (require test number place s at) (λ u next. (test ≡ true) × (next ≡ at))
unfolding require
meets-require test number place s at = meets-pick test (got tt at) _ (λ e. meets-got tt at (e, refl))

pub then-got : {A B : Type 0} (m : Reader A) (f : A → Reader B) (s : List ℕ) (at : ℕ) {a : A} {mid : ℕ}
    → m s at ≡ got a mid → (m >>= f) s at ≡ f a s mid
unfolding ◌>>=◌ and_then
then-got m f s at e = ap (λ r. and_then r (λ a next. f a s next)) e

pub next-got : {A B : Type 0} (m : Reader A) (n : Reader B) (s : List ℕ) (at : ℕ) {a : A} {mid : ℕ}
    → m s at ≡ got a mid → (m >> n) s at ≡ n s mid
unfolding ◌>>◌
next-got m n s at e = then-got m (λ a. n) s at e

pub here-got : {B : Type 0} (f : ℕ → Reader B) (s : List ℕ) (at : ℕ) → (here >>= f) s at ≡ f at s at
unfolding here
here-got f s at = then-got here f s at refl

pub require-got : {B : Type 0} (test : Bool) (number place : ℕ) (n : Reader B) (s : List ℕ) (at : ℕ) → test ≡ true
    → (require test number place >> n) s at ≡ n s at
unfolding require
require-got test number place n s at e = next-got (require test number place) n s at (simp e)

-- ---- exact readers

pub record Exact {A : Type 0} (m : Reader A) (write : A → List ℕ) (Rules : A → Type 0) : Type 0 where
  pub sound : (s : List ℕ) (at : ℕ) → Bytes s → at ≤ length s → Meets (m s at) (λ a next. Between s at (write a) next × Rules a)
  pub complete : (s : List ℕ) (at : ℕ) (a : A) (next : ℕ) → Rules a → Between s at (write a) next → m s at ≡ got a next

span-meets : {A : Type 0} {Q : A → ℕ → Type 0} (n : ℕ) (s : List ℕ) (at : ℕ) (f : ℕ → ℕ → Read A)
    → (at + n ≤ length s → Meets (f at (at + n)) Q) → Meets (and_then (span n s at) f) Q
unfolding span and_then
span-meets {A} {Q} n s at f h = go (leb (at + n) (length s)) refl
  where
    go : (b : Bool) → leb (at + n) (length s) ≡ b → Meets (and_then (pick b (got at (at + n)) (bad (record { number = 8; index = 0; place = at }))) f) Q
    go true e = h (leb-true (at + n) (length s) e)
    go false e = record { if-got = λ b n e. absurd (let z : ◌≡◌ {A = ℕ} 0 1 = cc in omega arith) }

span-got : {A : Type 0} (n : ℕ) (s : List ℕ) (at : ℕ) (f : ℕ → ℕ → Read A) → at + n ≤ length s → and_then (span n s at) f ≡ f at (at + n)
unfolding span and_then
span-got n s at f h = simp (le-leb _ _ h)

pub number-exact : (w : ℕ) → Exact (number w) (be w) (λ n. n < 256 ^ w)
unfolding number
number-exact w =
    record {
      sound = λ s at h i. span-meets w s at _ (λ k. meets-got _ _
          (record { layout = be-number w s at h k; inside = k; size = ap (λ (x : ℕ). at + x) (sym (length_digits 256 w _)) }, number_lt s at w h));
      complete = λ s at n next h f.
          let end : next ≡ at + w = f.size ∙ ap (λ (x : ℕ). at + x) (length_digits 256 w n) in
          span-got w s at _ (omega (arith, f.inside))
          ∙ ap₂ got (number-be w n s at (drop next s) h f.layout) (sym end);
    }

pub bytes-exact : (n : ℕ) → Exact (bytes n) (λ v. v) (λ v. (length v ≡ n) × Bytes v)
unfolding bytes
bytes-exact n =
    record {
      sound = λ s at h i. span-meets n s at _ (λ k. meets-got _ _
          (between-take s at n k, (length-take-le n (drop at s) (subst (λ (x : ℕ). n ≤ x) (sym (length-drop at s)) (omega arith)), bytes_take n _ (bytes_drop at s h))));
      complete = λ s at v next h f.
          let end : next ≡ at + n = f.size ∙ ap (λ (x : ℕ). at + x) h.0 in
          span-got n s at _ (omega (arith, f.inside))
          ∙ ap₂ got (ap (λ (x : ℕ). take x (drop at s)) (sym h.0) ∙ between_is f) (sym end);
    }

pub up_to-exact : (w most refusal : ℕ) → Exact (up_to w most refusal) (be w) (λ n. (n < 256 ^ w) × (n ≤ most))
unfolding up_to pure
up_to-exact w most refusal =
    record {
      sound = λ s at h i. meets-then here _ s at (meets-here s at) (λ start n₀ k₀.
          meets-then (number w) _ s n₀ ((number-exact w).sound s n₀ h (omega (arith, k₀.1))) (λ n next k.
          meets-next (require (leb n most) refusal start) _ s next (meets-require _ _ _ s next) (λ u end r.
          meets-pure n s end (between-moved k₀.1 (sym r.1) k.0, (k.1, leb-true n most r.0)))));
      complete = λ s at n next h f.
          here-got _ s at ∙ then-got (number w) _ s at ((number-exact w).complete s at n next h.0 f)
          ∙ require-got (leb n most) refusal at _ s next (le-leb n most h.1);
    }

pub repeat-sound : {A : Type 0} {m : Reader A} {write : A → List ℕ} {Rules : A → Type 0} → Exact m write Rules → (n : ℕ) (s : List ℕ) (at : ℕ) → Bytes s → at ≤ length s
    → Meets (repeat n m s at) (λ l next. Between s at (joined write l) next × ((length l ≡ n) × All Rules l))
unfolding repeat
repeat-sound x zero s at h i = meets-pure [] s at (between-nil s at i, (refl, tt))
repeat-sound {m = m} x (suc n) s at h i =
    meets-then m _ s at (x.sound s at h i) (λ a mid k.
    meets-then (repeat n m) _ s mid (repeat-sound x n s mid h k.0.inside) (λ l next r.
    meets-pure (a ∷ l) s next (between_join k.0 r.0, (ap suc r.1.0, (k.1, r.1.1)))))

pub repeat-complete : {A : Type 0} {m : Reader A} {write : A → List ℕ} {Rules : A → Type 0} → Exact m write Rules → (l : List A) (s : List ℕ) (at next : ℕ)
    → All Rules l → Between s at (joined write l) next → repeat (length l) m s at ≡ got l next
unfolding repeat pure
repeat-complete x [] s at next h f = ap (got []) (sym (f.size ∙ add-zero at))
repeat-complete {m = m} {write = write} x (a ∷ l) s at next h f =
    let halves = between_split (write a) f in
    then-got m _ s at (x.complete s at a _ h.0 halves.0)
    ∙ then-got (repeat (length l) m) _ s _ (repeat-complete x l s _ next h.1 halves.1)
