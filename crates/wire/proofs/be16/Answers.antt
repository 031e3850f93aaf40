use Rattle.std.proofs.Common.{zero-add, arith}
use Rattle.wire.specs.Numbers.{number_at}
use Rattle.wire.proofs.Widths.{number-part}
use Rattle.wire.proofs.be16.Goals as goal

pub returns : goal.returns
unfolding number_at
returns c = let part = number-part c.args.s.now c.args.at 2 2 (omega arith) in grind (arith, zero-add)
