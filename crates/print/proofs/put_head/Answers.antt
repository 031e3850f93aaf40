use mir.Facts.{to_z-of_z}
use Prim.Native.Nat.{ℕ, ◌+◌}
use native.Mathlib.Omega.{arith}
use mathlib.Core.Path.{◌≡◌, ap, ◌∙◌}
use Rattle.wire.specs.Numbers.{number_at, signed}
use Rattle.print.proofs.DegreeLaws.{degrees-most}
use Rattle.text.proofs.DecimalLaws.{decimal-most}
use Rattle.print.proofs.LineLaws.{leading-stored}
use Rattle.print.proofs.put_head.Goals as goal

pub be64-requires : goal.be64-requires
be64-requires c = omega (arith, c.requires.0)

pub store_decimal-first-requires : goal.store_decimal-first-requires
store_decimal-first-requires c = omega (arith, c.requires.1)

pub be32-requires : goal.be32-requires
be32-requires c = omega (arith, c.requires.0)

pub signed32-requires : goal.signed32-requires
signed32-requires c = tt

pub store_coordinate-second-requires : goal.store_coordinate-second-requires
store_coordinate-second-requires c = omega (arith, c.requires.1, c.store_decimal-first.ensures.place, decimal-most c.be64.result)

pub be32-requires-2 : goal.be32-requires-2
be32-requires-2 c = omega (arith, c.requires.0)

pub signed32-requires-2 : goal.signed32-requires-2
signed32-requires-2 c = tt

pub store_coordinate-third-requires : goal.store_coordinate-third-requires
store_coordinate-third-requires c = let second = rw (to_z-of_z (record { sfits = c.signed32.type_inv })) at c.store_coordinate-second.ensures in
    omega (arith, c.requires.1, c.store_decimal-first.ensures.place, decimal-most c.be64.result, second.place, degrees-most c.signed32.result)

pub be16-requires : goal.be16-requires
be16-requires c = omega (arith, c.requires.0)

pub store_marked-requires : goal.store_marked-requires
store_marked-requires c = let second = rw (to_z-of_z (record { sfits = c.signed32.type_inv })) at c.store_coordinate-second.ensures in
    let third = rw (to_z-of_z (record { sfits = c.signed32-2.type_inv })) at c.store_coordinate-third.ensures in
    omega (arith, c.requires.1, c.store_decimal-first.ensures.place, decimal-most c.be64.result, second.place, degrees-most c.signed32.result, third.place, degrees-most c.signed32-2.result)

pub returns : goal.returns
returns c = let front : c.args.at ≡ c.args.at + 0 = omega arith in
    let second = rw (to_z-of_z (record { sfits = c.signed32.type_inv })) at c.store_coordinate-second.ensures in
    let third = rw (to_z-of_z (record { sfits = c.signed32-2.type_inv })) at c.store_coordinate-third.ensures in
    leading-stored _ _ _ _ (c.be64.ensures ∙ ap (λ (n : ℕ). number_at c.args.s.now n 8) front) (c.signed32.ensures ∙ ap (signed 4) c.be32.ensures) (c.signed32-2.ensures ∙ ap (signed 4) c.be32-2.ensures) c.be16.ensures c.store_decimal-first.ensures second third c.store_marked.ensures
