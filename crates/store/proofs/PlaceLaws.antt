-- The entries by their offsets.
use Prim.Native.Nat.{ℕ, zero, suc, ◌+◌, ◌-◌, ◌≤◌, ◌<◌, min}
use native.Mathlib.Nat.{add-zero, not-suc-le-zero, le_refl, zero-min, min-zero, suc-min-suc, suc-sub-suc, zero-add, sub-zero, suc-add}
use native.Mathlib.Omega.{arith}
use mathlib.Core.Path.{◌≡◌, refl, ap, ap₂, ◌∙◌}
use mathlib.Core.List.{List, [], ◌∷◌}
use lib.ListN.{length, take, drop, length-take, length-drop, drop_of_length-le}
use lib.Seq.{drop-drop, take-nil}
use Rattle.wire.specs.Numbers.{little_at}
use Rattle.store.specs.Entries.{Entry, entries_from, entries_of, body_at, next_at, entry_at, entries_at}
use Rattle.store.proofs.LittleLaws.{little-drop}

-- ---- the next entry

-- more entries than bytes are never read
enough : (n m : ℕ) (s : List ℕ) → length s ≤ n → length s ≤ m → entries_from n s ≡ entries_from m s
unfolding entries_from
enough zero zero [] h k = refl
enough zero (suc m) [] h k = refl
enough (suc n) zero [] h k = refl
enough (suc n) (suc m) [] h k = refl
enough zero m (b ∷ s) h k = absurd (not-suc-le-zero h)
enough (suc n) zero (b ∷ s) h k = absurd (not-suc-le-zero k)
enough (suc n) (suc m) (b ∷ s) h k =
    let size : length (drop (4 + little_at (b ∷ s) 0 2) (b ∷ s)) ≤ length s = simp length-drop (omega arith) in
    ap (λ (l : List Entry). record { kind = little_at (b ∷ s) 2 2; body = take (little_at (b ∷ s) 0 2) (drop 4 (b ∷ s)) } ∷ l) (enough n m (drop (4 + little_at (b ∷ s) 0 2) (b ∷ s)) (omega arith) (omega arith))

first_of : (s : List ℕ) → 0 < length s
    → entries_of s ≡ record { kind = little_at s 2 2; body = take (little_at s 0 2) (drop 4 s) } ∷ entries_of (drop (4 + little_at s 0 2) s)
unfolding entries_of entries_from
first_of [] h = absurd (not-suc-le-zero h)
first_of (b ∷ s) h =
    let size : length (drop (4 + little_at (b ∷ s) 0 2) (b ∷ s)) ≤ length s = simp length-drop (omega arith) in
    ap (λ (l : List Entry). record { kind = little_at (b ∷ s) 2 2; body = take (little_at (b ∷ s) 0 2) (drop 4 (b ∷ s)) } ∷ l) (enough (length s) (length (drop (4 + little_at (b ∷ s) 0 2) (b ∷ s))) (drop (4 + little_at (b ∷ s) 0 2) (b ∷ s)) size (le_refl _))

pub entries-on : (f : List ℕ) (at : ℕ) → at < length f → entries_at f at ≡ entry_at f at ∷ entries_at f (next_at f at)
unfolding entries_at
entries-on f at h =
    let kind = little-drop f at 2 2 in
    let size : little_at (drop at f) 0 2 ≡ little_at f at 2 = little-drop f at 0 2 ∙ ap (λ (j : ℕ). little_at f j 2) (add-zero at) in
    let body : take (little_at (drop at f) 0 2) (drop 4 (drop at f)) ≡ body_at f at = ap₂ (λ (n : ℕ) (l : List ℕ). take n l) size (drop-drop 4 at f) in
    let place : at + (4 + little_at (drop at f) 0 2) ≡ next_at f at = omega (arith, size) in
    let next : drop (4 + little_at (drop at f) 0 2) (drop at f) ≡ drop (next_at f at) f =
    drop-drop (4 + little_at (drop at f) 0 2) at f ∙ ap (λ (n : ℕ). drop n f) place
    in
    first_of (drop at f) (simp length-drop (omega arith)) ∙ (λ i. record { kind = kind i; body = body i } ∷ entries_of (next i))

pub entries-end : (f : List ℕ) (at : ℕ) → length f ≤ at → entries_at f at ≡ []
unfolding entries_at entries_of entries_from
entries-end f at h = ap entries_of (drop_of_length-le f {i = at} h)

-- ---- the body

pub body-short : (f : List ℕ) (at : ℕ) → length (body_at f at) ≤ length f
body-short f at = omega (arith, length-take (little_at f at 2) (drop (at + 4) f), length-drop (at + 4) f)
