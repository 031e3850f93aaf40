use mir.Facts.{to_z-of_z}
use native.Mathlib.Omega.{arith}
use mathlib.Core.Path.{refl}
use Rattle.store.proofs.StoredLaws.{stored_on}
use Rattle.print.proofs.DegreeLaws.{stored-mark}
use Rattle.print.proofs.store_coordinate.Goals as goal

pub overflow_add-to : goal.overflow_add-to
overflow_add-to c = omega (arith, c.requires)

pub store_degrees-requires : goal.store_degrees-requires
store_degrees-requires c = omega (arith, c.requires)

pub returns : goal.returns
returns c = stored_on (stored-mark c.store_byte.ensures) (rw (to_z-of_z c.ranges.x) at c.store_degrees.ensures) refl
