use Rattle.checksum.proofs.FoldLaws.{fold, folded-last}
use Rattle.checksum.proofs.words.fold16.Goals as goal

pub returns : goal.returns
unfolding fold
returns c = folded-last c.args.a c.ranges.a.fits
