-- Little-endian numbers, byte by byte.
use Prim.Native.Nat.{ℕ, zero, suc, ◌+◌, ◌-◌, ◌*◌, ◌≤◌, ◌^◌}
use native.Mathlib.Omega.{arith}
use mathlib.Core.Path.{◌≡◌, refl, sym, ap, ap₂, ◌∙◌}
use mathlib.Core.List.{List}
use lib.ListN.{length, drop, get_or-eq_default}
use lib.Seq.{get_or-drop}
use Rattle.wire.specs.Numbers.{little_at}
use Rattle.wire.proofs.Shifts.{little-add}

pub little-drop : (f : List ℕ) (at k w : ℕ) → little_at (drop at f) k w ≡ little_at f (at + k) w
unfolding little_at
little-drop f at k zero = refl
little-drop f at k (suc w) =
    ap₂ (λ (a b : ℕ). a + 256 * b) (get_or-drop at f k 0) (little-drop f at (k + 1) w ∙ ap (λ (j : ℕ). little_at f j w) (omega arith))

-- past the end each byte is 0
pub little-past : (f : List ℕ) (at w : ℕ) → length f ≤ at → little_at f at w ≡ 0
unfolding little_at
little-past f at zero h = refl
little-past f at (suc w) h = omega (arith, get_or-eq_default f 0 {n = at} h, little-past f (at + 1) w (omega arith))

-- so the bytes that are there make up the number
pub little-there : (f : List ℕ) (at w : ℕ) → at ≤ length f → length f ≤ at + w → little_at f at (length f - at) ≡ little_at f at w
little-there f at w h k =
    let n : ℕ = length f - at in
    let whole : n + (w - n) ≡ w = omega arith in
    let past : little_at f (at + n) (w - n) ≡ 0 = little-past f (at + n) (w - n) (omega arith) in
    let high : little_at f (at + n) (w - n) * 2 ^ (8 * n) ≡ 0 = rw past (omega arith) in
    sym (ap (little_at f at) (sym whole) ∙ little-add f at n (w - n) ∙ omega (arith, high))
