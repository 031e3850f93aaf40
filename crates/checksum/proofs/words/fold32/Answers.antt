use lib.Dec.{lit≤}
use Rattle.checksum.proofs.ModuloLaws.{factor-2}
use Rattle.checksum.proofs.FoldLaws.{fold, fold-alike}
use Rattle.checksum.proofs.words.fold32.Goals as goal

pub returns : goal.returns
unfolding fold
returns c = fold-alike 2 factor-2 (lit≤ tt) c.args.a c.ranges.a.fits
