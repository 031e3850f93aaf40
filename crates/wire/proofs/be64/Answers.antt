use Rattle.std.proofs.Common.{zero-add, arith}
use Rattle.wire.specs.Numbers.{number_at}
use Rattle.wire.proofs.Widths.{number-part}
use Rattle.wire.proofs.be64.Goals as goal

pub returns : goal.returns
unfolding number_at
returns c = let part = number-part c.args.s.now c.args.at 8 8 (omega arith) in grind (arith, zero-add)
