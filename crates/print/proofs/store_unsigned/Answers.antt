use Prim.Native.Nat.{◌/◌}
use native.Mathlib.Omega.{arith}
use Rattle.print.proofs.DegreeLaws.{stored-unsigned}
use Rattle.text.proofs.DecimalLaws.{decimal-most}
use Rattle.print.proofs.store_unsigned.Goals as goal

pub store_decimal-point-requires : goal.store_decimal-point-requires
store_decimal-point-requires c = omega (arith, c.requires)

pub store_places-requires : goal.store_places-requires
store_places-requires c = omega (arith, c.requires, c.store_decimal-point.ensures.place, decimal-most (c.args.m / 10000000))

pub returns : goal.returns
returns c = stored-unsigned c.args.m c.store_decimal-point.ensures c.store_places.ensures
