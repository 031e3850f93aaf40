-- Blocks stored one behind another are one block.
use Prim.Native.Nat.{ℕ, zero, suc, ◌+◌, ◌/◌, ◌<◌}
use native.Mathlib.Omega.{arith}
use mathlib.Core.Path.{◌≡◌, refl, sym, ap, ap₂, ◌∙◌, subst}
use mathlib.Core.List.{List, [], ◌∷◌, ◌++◌, append-nil, append_assoc}
use lib.ListN.{length, length-append, set}
use lib.Seq.{sets, length-sets, set_comm}
use Rattle.wire.specs.Numbers.{be, le}
use Rattle.wire.proofs.Widths.{length_digits}
use Rattle.wire.proofs.Storing.{sets-append, sets-snoc}
use Rattle.store.specs.Stores.{Stored}

-- one block more, stored at the place behind the first
pub stored_on : {a b l m n : List ℕ} {to mid at end : ℕ} → Stored a l m to mid → Stored b m n at end → at ≡ to + length a → Stored (a ++ b) l n to end
stored_on {a} {b} {l} {m} {n} {to} {mid} {at} {end} s t e = record {
  place = omega (arith, e, t.place, length-append a b);
  buffer = t.buffer ∙ ap₂ (λ (k : List ℕ) (j : ℕ). sets k j b) s.buffer e ∙ sym (sets-append l to a b);
}

pub stored-then : {a b l m n : List ℕ} {to mid end : ℕ} → Stored a l m to mid → Stored b m n mid end → Stored (a ++ b) l n to end
stored-then s t = stored_on s t s.place

pub stored_of : {l m : List ℕ} {to : ℕ} (a : List ℕ) → m ≡ sets l to a → Stored a l m to (to + length a)
stored_of a e = record { place = refl; buffer = e }

length-le : (w n : ℕ) → length (le w n) ≡ w
unfolding le
length-le zero n = refl
length-le (suc w) n = ap suc (length-le w (n / 256))

pub stored-be : (w n to : ℕ) {l m : List ℕ} {next : ℕ} → next ≡ to + w → m ≡ sets l to (be w n) → Stored (be w n) l m to next
stored-be w n to e s = record { place = omega (arith, e, length_digits 256 w n); buffer = s }

pub stored-le : (w n to : ℕ) {l m : List ℕ} {next : ℕ} → next ≡ to + w → m ≡ sets l to (le w n) → Stored (le w n) l m to next
stored-le w n to e s = record { place = omega (arith, e, length-le w n); buffer = s }

-- ---- a block in front of one that stands already

set_before : (l : List ℕ) (j x at : ℕ) (b : List ℕ) → j < at → set (sets l at b) j x ≡ sets (set l j x) at b
set_before l j x at [] h = refl
set_before l j x at (y ∷ b) h = set_before (set l at y) j x (suc at) b (omega arith) ∙ ap (λ (m : List ℕ). sets m (suc at) b) (set_comm l at j y x (λ e. omega arith))

sets-before : (l : List ℕ) (to : ℕ) (a b : List ℕ) → sets (sets l (to + length a) b) to a ≡ sets l to (a ++ b)
sets-before l to a [] = ap (sets l to) (sym (append-nil a))
sets-before l to a (x ∷ b) =
    let place : to + length (a ++ (x ∷ [])) ≡ suc (to + length a) = omega (arith, length-append a (x ∷ [])) in
    ap (λ (m : List ℕ). sets m to a) (sym (set_before l (to + length a) x (suc (to + length a)) b (omega arith)))
    ∙ sym (sets-snoc (sets l (suc (to + length a)) b) to a x)
    ∙ ap (λ (k : ℕ). sets (sets l k b) to (a ++ (x ∷ []))) (sym place)
    ∙ sets-before l to (a ++ (x ∷ [])) b
    ∙ ap (sets l to) (append_assoc a (x ∷ []) b)

pub stored-before : {a b l m n : List ℕ} {to mid end : ℕ} → Stored a m n to mid → Stored b l m mid end → Stored (a ++ b) l n to end
stored-before {a} {b} {l} {m} {n} {to} {mid} {end} s t = record {
  place = omega (arith, s.place, t.place, length-append a b);
  buffer = s.buffer ∙ ap (λ (k : List ℕ). sets k to a) (t.buffer ∙ ap (λ (j : ℕ). sets l j b) s.place) ∙ sets-before l to a b;
}

pub stored-length : {a l m : List ℕ} {to next : ℕ} → Stored a l m to next → length m ≡ length l
stored-length {a} {l} {m} {to} {next} s = ap length s.buffer ∙ length-sets l to a

pub stored-as : {a b l m : List ℕ} {to next : ℕ} → a ≡ b → Stored a l m to next → Stored b l m to next
stored-as {a} {b} {l} {m} {to} {next} e s = subst (λ (x : List ℕ). Stored x l m to next) e s

-- ---- in a loop: what is left, stored here, gives the whole

pub record Left (rest whole start l : List ℕ) (to next : ℕ) : Type 0 where
  pub place : next + length rest ≡ to + length whole
  pub buffer : sets l next rest ≡ sets start to whole

pub left-all : (whole l : List ℕ) (to : ℕ) → Left whole whole l l to to
left-all whole l to = record { place = refl; buffer = refl }

pub left_as : {rest more whole start l : List ℕ} {to next : ℕ} → rest ≡ more → Left rest whole start l to next → Left more whole start l to next
left_as {rest} {more} {whole} {start} {l} {to} {next} e s = subst (λ (x : List ℕ). Left x whole start l to next) e s

pub left-more : {a more whole start l m : List ℕ} {to next end : ℕ} → Left (a ++ more) whole start l to next → Stored a l m next end → Left more whole start m to end
left-more {a} {more} {whole} {start} {l} {m} {to} {next} {end} s t = record {
  place = omega (arith, s.place, t.place, length-append a more);
  buffer = ap₂ (λ (k : List ℕ) (j : ℕ). sets k j more) t.buffer t.place ∙ sym (sets-append l next a more) ∙ s.buffer;
}

pub left-done : {whole start l : List ℕ} {to next : ℕ} → Left [] whole start l to next → Stored whole start l to next
left-done {whole} {start} {l} {to} {next} s = record { place = omega (arith, s.place); buffer = s.buffer }

pub left-length : {rest whole start l : List ℕ} {to next : ℕ} → Left rest whole start l to next → length l ≡ length start
left-length {rest} {whole} {start} {l} {to} {next} s = sym (length-sets l next rest) ∙ ap length s.buffer ∙ length-sets start to whole
