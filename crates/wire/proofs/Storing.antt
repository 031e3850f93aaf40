-- Bytes stored into a buffer, block by block and byte by byte.
use Prim.Native.Nat.{ℕ, zero, suc, ◌+◌, ◌-◌, ◌/◌, ◌%◌, ◌≤◌, ◌<◌}
use native.Mathlib.Nat.{add-zero, add-suc, suc-add, not-suc-le-zero}
use native.Mathlib.Omega.{arith}
use mathlib.Core.Path.{◌≡◌, refl, sym, ap, ap₂, ◌∙◌}
use mathlib.Core.List.{List, [], ◌∷◌, ◌++◌, append_assoc}
use Rattle.std.proofs.Common.{drop-cons}
use lib.ListN.{length, take, drop, set, get_or, take-append-drop}
use lib.Seq.{sets, sets-eq, set_comm, drop-set-lt, drop_at, length-take-le}
use Rattle.wire.specs.Numbers.{digits, be, le}
use Rattle.wire.proofs.Widths.{length_digits}
use Rattle.wire.proofs.Placed.{between-take}

-- ---- two blocks

pub sets-append : (l : List ℕ) (at : ℕ) (a b : List ℕ) → sets l at (a ++ b) ≡ sets (sets l at a) (at + length a) b
sets-append l at [] b = ap (λ (k : ℕ). sets l k b) (sym (add-zero at))
sets-append l at (x ∷ a) b =
    sets-append (set l at x) (suc at) a b ∙ ap (λ (k : ℕ). sets (sets (set l at x) (suc at) a) k b) (suc-add at (length a) ∙ sym (add-suc at (length a)))

-- a byte behind a block may be stored first
set-sets : (l : List ℕ) (at : ℕ) (a : List ℕ) (j x : ℕ) → at + length a ≤ j → set (sets l at a) j x ≡ sets (set l j x) at a
set-sets l at [] j x h = refl
set-sets l at (y ∷ a) j x h =
    set-sets (set l at y) (suc at) a j x (omega arith) ∙ ap (λ (m : List ℕ). sets m (suc at) a) (set_comm l at j y x (λ e. omega arith))

pub sets-snoc : (l : List ℕ) (at : ℕ) (a : List ℕ) (x : ℕ) → sets l at (a ++ (x ∷ [])) ≡ sets (set l (at + length a) x) at a
sets-snoc l at a x = sets-append l at a (x ∷ []) ∙ set-sets l at a (at + length a) x (omega arith)

-- ---- what a loop has left to store

pub be-left : (l : List ℕ) (at w n : ℕ) → 0 < w → sets l at (be w n) ≡ sets (set l (at + (w - 1)) (n % 256)) at (be (w - 1) (n / 256))
unfolding digits
be-left l at zero n h = absurd (not-suc-le-zero h)
be-left l at (suc w) n h =
    let size : length (be w (n / 256)) ≡ suc w - 1 = omega (arith, length_digits 256 w (n / 256)) in
    let left : w ≡ suc w - 1 = omega arith in
    sets-snoc l at (be w (n / 256)) (n % 256) ∙ ap₂ (λ (j k : ℕ). sets (set l (at + j) (n % 256)) at (be k (n / 256))) size left

pub le_left : (l : List ℕ) (at w n : ℕ) → 0 < w → sets l at (le w n) ≡ sets (set l at (n % 256)) (suc at) (le (w - 1) (n / 256))
unfolding le
le_left l at zero n h = absurd (not-suc-le-zero h)
le_left l at (suc w) n h = let left : w ≡ suc w - 1 = omega arith in ap (λ (k : ℕ). sets (set l at (n % 256)) (suc at) (le k (n / 256))) left

pub drop-left : (l : List ℕ) (at i : ℕ) (b : List ℕ) → i < length b → sets l at (drop i b) ≡ sets (set l at (get_or b i 0)) (suc at) (drop (suc i) b)
drop-left l at i b h = ap (sets l at) (drop-cons b i 0 h)

-- ---- what a block leaves

pub drop-sets : (l : List ℕ) (at : ℕ) (a : List ℕ) (n : ℕ) → at + length a ≤ n → drop n (sets l at a) ≡ drop n l
drop-sets l at [] n h = refl
drop-sets l at (x ∷ a) n h = drop-sets (set l at x) (suc at) a n (omega arith) ∙ drop-set-lt n l at x (omega arith)

-- what is stored stands there
pub drop-at-sets : (l : List ℕ) (at : ℕ) (a : List ℕ) → at + length a ≤ length l → drop at (sets l at a) ≡ a ++ drop (at + length a) l
drop-at-sets l at a h =
    ap (drop at) (sets-eq a l at h ∙ append_assoc (take at l) a (drop (at + length a) l))
    ∙ drop_at (take at l) (a ++ drop (at + length a) l) at (length-take-le at l (omega arith))

-- storing what stands there changes nothing
pub sets_same : (l : List ℕ) (at n : ℕ) → at + n ≤ length l → sets l at (take n (drop at l)) ≡ l
sets_same l at n h =
    let b = take n (drop at l) in
    let stands = between-take l at n h in
    let room : at + length b ≤ length l = omega (arith, stands.inside, stands.size) in
    sets-eq b l at room
    ∙ append_assoc (take at l) b (drop (at + length b) l)
    ∙ ap (λ (t : List ℕ). take at l ++ t) (ap (λ (k : ℕ). b ++ drop k l) (sym stands.size) ∙ sym stands.layout)
    ∙ take-append-drop at l
