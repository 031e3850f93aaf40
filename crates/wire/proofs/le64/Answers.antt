use Rattle.std.proofs.Common.{zero-add, add-zero, arith}
use Rattle.wire.specs.Numbers.{little_at}
use Rattle.wire.proofs.Widths.{little-part}
use Rattle.wire.proofs.le64.Goals as goal

pub returns : goal.returns
unfolding little_at
returns c = let part = little-part c.args.s.now c.args.at 8 0 8 (omega arith) in grind (arith, zero-add, add-zero)
