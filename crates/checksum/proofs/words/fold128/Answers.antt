use mathlib.Core.Path.{refl}
use lib.Dec.{lit≤}
use lib.Bits.{bit_xor}
use Rattle.checksum.proofs.ModuloLaws.{factor-8}
use Rattle.checksum.proofs.FoldLaws.{lowered, carried, pair-alike}
use Rattle.checksum.proofs.words.fold128.Goals as goal

pub returns : goal.returns
unfolding lowered carried
returns c = pair-alike 8 factor-8 (lit≤ tt) c.args.low c.args.high (bit_xor c.args.high (carried 64 8 c.args.low)) c.ranges.low.fits c.ranges.high.fits refl
