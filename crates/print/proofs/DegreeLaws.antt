-- Degrees: seven places behind a point, stored digit by digit; and how long they are.
use Prim.Native.Nat.{ℕ, zero, suc, ◌+◌, ◌-◌, ◌/◌, ◌%◌, ◌^◌, ◌≤◌, ◌<◌}
use native.Mathlib.Nat.{not-suc-le-zero}
use native.Mathlib.Omega.{arith}
use mathlib.Core.Path.{◌≡◌, refl, ap, ap₂, ◌∙◌}
use mathlib.Core.Bool.{Bool, true, false}
use mathlib.Core.List.{List, [], ◌∷◌, ◌++◌, append-nil}
use lib.ListN.{length, length-append, take, drop, set, drop_of_length-le}
use lib.Seq.{sets, take_at}
use lib.Dec.{ltb}
use lib.IntN.{ℤ, pos, negsuc, nat_abs}
use lib.Signed.{lt_z}
use borrow.Author.Tests.{ltb-true}
use Rattle.wire.specs.Numbers.{digits, signed, pick}
use Rattle.wire.specs.Sequences.{joined}
use Rattle.wire.specs.Imei.{ascii_digit}
use Rattle.wire.proofs.Widths.{length_digits}
use Rattle.wire.proofs.Storing.{sets-snoc}
use Rattle.wire.proofs.BufferLaws.{sets-front}
use Rattle.traverse.proofs.PaceLaws.{joined-append}
use Rattle.text.specs.Decimal.{decimal}
use Rattle.store.specs.Stores.{Stored}
use Rattle.store.proofs.StoredLaws.{stored_on, stored-as}
use Rattle.line.specs.Lines.{unsigned_degrees, degrees}
use Rattle.text.proofs.DecimalLaws.{decimal-most, decimal-few}

-- what is stored into a buffer of its own, and taken out of it
pub stored-apart : (z b : List ℕ) {n : ℕ} {l m : List ℕ} {to next : ℕ} → n ≡ length b → length b ≤ length z → Stored (take (n - 0) (sets z 0 b)) l m to next → Stored b l m to next
stored-apart z b {n} e h s =
    let same : n - 0 ≡ length b = omega (arith, e) in
    stored-as (ap₂ (λ (k : ℕ) (x : List ℕ). take k x) same (sets-front b z h) ∙ take_at b (drop (length b) z) (length b) refl) s

-- and where it fills it
pub stored-full : (z b : List ℕ) {l m : List ℕ} {to next : ℕ} → length b ≡ length z → Stored (sets z 0 b) l m to next → Stored b l m to next
stored-full z b e s =
    let none : drop (length b) z ≡ [] = drop_of_length-le z {i = length b} (omega (arith, e)) in
    stored-as (sets-front b z (omega (arith, e)) ∙ ap (λ (x : List ℕ). b ++ x) none ∙ append-nil b) s

-- ---- places

abbrev pub places : ℕ → ℕ → List ℕ
places w n = joined ascii_digit (digits 10 w n)

length-ascii : (ds : List ℕ) → length (joined ascii_digit ds) ≡ length ds
length-ascii [] = refl
length-ascii (d ∷ ds) = ap suc (length-ascii ds)

pub length-places : (w n : ℕ) → length (places w n) ≡ w
length-places w n = length-ascii (digits 10 w n) ∙ length_digits 10 w n

pub places-left : (l : List ℕ) (to w n : ℕ) → 0 < w → sets l (suc to) (places w n) ≡ sets (set l (to + w) (48 + n % 10)) (suc to) (places (w - 1) (n / 10))
unfolding digits
places-left l to zero n h = absurd (not-suc-le-zero h)
places-left l to (suc w) n h =
    let place : suc to + length (places w (n / 10)) ≡ to + suc w = omega (arith, length-places w (n / 10)) in
    let left : w ≡ suc w - 1 = omega arith in
    ap (sets l (suc to)) (joined-append ascii_digit (digits 10 w (n / 10)) (n % 10 ∷ []))
    ∙ sets-snoc l (suc to) (places w (n / 10)) (48 + n % 10)
    ∙ ap₂ (λ (j k : ℕ). sets (set l j (48 + n % 10)) (suc to) (places k (n / 10))) place left

pub places-done : (l : List ℕ) (to w n : ℕ) → w ≤ 0 → sets l to (places w n) ≡ l
unfolding digits
places-done l to w n h = let none : w ≡ 0 = omega arith in ap (λ (k : ℕ). sets l to (places k n)) none

pub stored-places : (n to : ℕ) {l m : List ℕ} {next : ℕ} → next ≡ to + 8 → m ≡ sets l to (46 ∷ places 7 n) → Stored (46 ∷ places 7 n) l m to next
stored-places n to e s = record { place = omega (arith, e, length-places 7 n); buffer = s }

-- ---- signs

pub stored-mark : {l m : List ℕ} {to b : ℕ} → m ≡ set l to b → Stored (b ∷ []) l m to (to + 1)
stored-mark e = record { place = refl; buffer = e }

pub stored-unsigned : (n : ℕ) {l m o : List ℕ} {to point next : ℕ} → Stored (decimal (n / 10000000)) l m to point → Stored (46 ∷ places 7 (n % 10000000)) m o point next → Stored (unsigned_degrees n) l o to next
unfolding unsigned_degrees
stored-unsigned n s t = stored_on s t s.place

pub degrees-below : (x : ℤ) → lt_z x (pos 0) ≡ true → degrees x ≡ 45 ∷ unsigned_degrees (nat_abs x)
unfolding degrees
degrees-below (pos n) e = absurd (not-suc-le-zero (ltb-true n 0 e))
degrees-below (negsuc n) e = refl

pub degrees-above : (x : ℤ) → lt_z x (pos 0) ≡ false → degrees x ≡ unsigned_degrees (nat_abs x)
unfolding degrees
degrees-above (pos n) e = refl
degrees-above (negsuc n) e = absurd (let z : ◌≡◌ {A = ℕ} 0 1 = cc in omega arith)

-- ---- sizes

unsigned-most : (m : ℕ) → length (unsigned_degrees m) ≤ 28
unfolding unsigned_degrees
unsigned-most m = omega (arith, length-append (decimal (m / 10 ^ 7)) (46 ∷ places 7 (m % 10 ^ 7)), length-places 7 (m % 10 ^ 7), decimal-most (m / 10 ^ 7))

pub degrees-most : (x : ℤ) → length (degrees x) ≤ 29
unfolding degrees
degrees-most (pos m) = omega (arith, unsigned-most m)
degrees-most (negsuc m) = omega (arith, unsigned-most (suc m))

unsigned-few : (m : ℕ) → m ≤ 2 ^ 32 → length (unsigned_degrees m) ≤ 11
unfolding unsigned_degrees
unsigned-few m h = omega (arith, length-append (decimal (m / 10 ^ 7)) (46 ∷ places 7 (m % 10 ^ 7)), length-places 7 (m % 10 ^ 7), decimal-few 2 (m / 10 ^ 7) (omega (arith, h)))

-- a sign, three digits, the point and seven places
pub coordinate-few : (n : ℕ) → length (degrees (signed 4 n)) ≤ 12
unfolding signed degrees
coordinate-few n = go (ltb n (2 ^ 31)) refl
  where
    go : (b : Bool) → ltb n (2 ^ 31) ≡ b → length (degrees (pick b (pos n) (negsuc (2 ^ 32 - suc n)))) ≤ 12
    go true e = omega (arith, unsigned-few n (omega (arith, ltb-true n (2 ^ 31) e)))
    go false e = omega (arith, unsigned-few (suc (2 ^ 32 - suc n)) (omega arith))
