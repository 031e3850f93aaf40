-- The library's signed number is the definition's.
use Rattle.std.proofs.Math.Facts.{of_z-to_z}
use Rattle.std.specs.Int.{w32}
use Rattle.wire.proofs.Complement.{to_z-pick}
use Rattle.wire.specs.Numbers.{signed}
use Rattle.wire.proofs.signed32.Goals as goal

pub returns : goal.returns
unfolding signed
returns c = simp (c.cast_signed.ensures, of_z-to_z c.ranges.x) (to_z-pick w32 c.args.x)
