use Prim.Native.Nat.{ℕ}
use native.Mathlib.Omega.{arith}
use mathlib.Core.Path.{◌≡◌, refl, sym, ap, ◌∙◌}
use mathlib.Core.List.{◌∷◌}
use mathlib.Core.Bool.{true, false}
use mir.Facts.{to_z-of_z}
use lib.Signed.{lt_z}
use lib.IntN.{pos}
use Rattle.line.specs.Lines.{unsigned_degrees}
use Rattle.store.proofs.StoredLaws.{stored_on, stored-as}
use Rattle.print.proofs.DegreeLaws.{stored-mark, degrees-below, degrees-above}
use Rattle.print.proofs.store_degrees.Goals as goal

pub overflow_add-to : goal.overflow_add-to
overflow_add-to c = omega (arith, c.requires)

pub store_unsigned-requires : goal.store_unsigned-requires
store_unsigned-requires c = omega (arith, c.requires)

pub returns-then-x-lt0 : goal.returns-then-x-lt0
returns-then-x-lt0 c = let below : lt_z c.args.x (pos 0) ≡ true = rw (to_z-of_z c.ranges.x) at c.if-x-lt0.true in
    let size = rw (to_z-of_z c.ranges.x) at c.distance-size.ensures in
    stored-as (ap (λ (m : ℕ). 45 ∷ unsigned_degrees m) size ∙ sym (degrees-below c.args.x below)) (stored_on (stored-mark c.store_byte.ensures) c.store_unsigned.ensures refl)

pub store_unsigned-requires-2 : goal.store_unsigned-requires-2
store_unsigned-requires-2 c = omega (arith, c.requires)

pub returns : goal.returns
returns c = let above : lt_z c.args.x (pos 0) ≡ false = rw (to_z-of_z c.ranges.x) at c.if-x-lt0.false in
    let size = rw (to_z-of_z c.ranges.x) at c.distance-size.ensures in
    stored-as (ap unsigned_degrees size ∙ sym (degrees-above c.args.x above)) c.store_unsigned-2.ensures
