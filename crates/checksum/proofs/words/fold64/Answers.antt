use lib.Dec.{lit≤}
use Rattle.checksum.proofs.ModuloLaws.{factor-4}
use Rattle.checksum.proofs.FoldLaws.{fold, fold-alike}
use Rattle.checksum.proofs.words.fold64.Goals as goal

pub returns : goal.returns
unfolding fold
returns c = fold-alike 4 factor-4 (lit≤ tt) c.args.a c.ranges.a.fits
