-- The machine's signed numbers as the definitions have them, at any width.
use Prim.Native.Nat.{ℕ, suc, ◌-◌, ◌^◌}
use mathlib.Core.Bool.{Bool, true, false}
use mathlib.Core.Path.{◌≡◌, refl}
use lib.Dec.{ltb}
use lib.IntN.{ℤ, pos, negsuc}
use mir.Syntax.{Width}
use mir.Val.{bits, hbits, sel, to_z}
use Rattle.wire.specs.Numbers.{pick}

sel-pick : (t : Bool) (a b : ℤ) → sel t a b ≡ pick t a b
sel-pick true a b = refl
sel-pick false a b = refl

pub to_z-pick : (w : Width) (n : ℕ) → to_z w n ≡ pick (ltb n (2 ^ hbits w)) (pos n) (negsuc (2 ^ bits w - suc n))
to_z-pick w n = sel-pick (ltb n (2 ^ hbits w)) (pos n) (negsuc (2 ^ bits w - suc n))
