use Rattle.std.proofs.Common.{refl, arith}
use Rattle.checksum.proofs.FoldLaws.{other-parity}
use Rattle.checksum.proofs.WordLaws.{parity-counted}
use Rattle.checksum.proofs.words.with_parity.Goals as goal

pub returns-then-p-from-eq1 : goal.returns-then-p-from-eq1
returns-then-p-from-eq1 c =
    let parity = parity-counted c.args.p c.args.r c.ranges.p.fits c.ranges.r.fits in
    let other = other-parity c.args.r in
    (other.0, omega (arith, parity, other.1, rw c.from.ensures at c.if-p-from-eq1.true))

pub returns : goal.returns
returns c =
    let parity = parity-counted c.args.p c.args.r c.ranges.p.fits c.ranges.r.fits in
    (refl, omega (arith, parity, rw c.from.ensures at c.if-p-from-eq1.false))
