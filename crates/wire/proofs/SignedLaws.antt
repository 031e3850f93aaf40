-- Two's complement at any width: each number of `w` bytes has one meaning, and the ends of the range have theirs.
use Prim.Native.Nat.{ℕ, suc, ◌-◌, ◌*◌, ◌^◌, ◌≤◌, ◌<◌}
use native.Mathlib.Nat.{pow-suc, one-le-pow}
use native.Mathlib.Omega.{arith}
use mathlib.Core.Path.{◌≡◌, refl, ap, ◌∙◌}
use mathlib.Core.Bool.{Bool, true, false}
use lib.IntN.{ℤ, pos, negsuc}
use lib.Dec.{ltb, lit<}
use borrow.Author.Tests.{lt-ltb, le-ltb}
use Rattle.wire.specs.Numbers.{signed, pick}

-- zero, -1 and both ends of the range, at every width
pub record Ends (w : ℕ) : Type 0 where
  pub nothing : signed w 0 ≡ pos 0
  pub minus_one : signed w (2 ^ (8 * w) - 1) ≡ negsuc 0
  pub largest : signed w (2 ^ (8 * w - 1) - 1) ≡ pos (2 ^ (8 * w - 1) - 1)
  pub smallest : signed w (2 ^ (8 * w - 1)) ≡ negsuc (2 ^ (8 * w - 1) - 1)

pub ends : (w : ℕ) → 1 ≤ w → Ends w
unfolding signed
ends w h =
    let half : 2 ^ (8 * w) ≡ 2 ^ (8 * w - 1) * 2 = let one : 8 * w ≡ suc (8 * w - 1) = omega arith in ap (λ (k : ℕ). 2 ^ k) one ∙ pow-suc 2 (8 * w - 1) in
    let some : 1 ≤ 2 ^ (8 * w - 1) = one-le-pow (8 * w - 1) 2 (lit< tt) in
    record {
      nothing = simp (lt-ltb 0 (2 ^ (8 * w - 1)) some);
      minus_one = simp (le-ltb (2 ^ (8 * w) - 1) (2 ^ (8 * w - 1)) (omega arith)) (ap negsuc (omega arith));
      largest = simp (lt-ltb (2 ^ (8 * w - 1) - 1) (2 ^ (8 * w - 1)) (omega arith));
      smallest = simp (le-ltb (2 ^ (8 * w - 1)) (2 ^ (8 * w - 1)) (omega arith)) (ap negsuc (omega arith));
    }

-- the paper's example
pub longitude : signed 4 0x209CCA80 ≡ pos 547146368
unfolding signed
longitude = refl

-- the number whose bytes mean `z`
pub raw : ℕ → ℤ → ℕ
raw w (pos n) = n
raw w (negsuc n) = 2 ^ (8 * w) - suc n

-- no two numbers of `w` bytes mean the same
pub raw-signed : (w n : ℕ) → n < 2 ^ (8 * w) → raw w (signed w n) ≡ n
unfolding signed raw
raw-signed w n h = go (ltb n (2 ^ (8 * w - 1)))
  where
    go : (b : Bool) → raw w (pick b (pos n) (negsuc (2 ^ (8 * w) - suc n))) ≡ n
    go true = refl
    go false = omega arith
