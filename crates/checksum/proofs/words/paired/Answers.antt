use Rattle.std.proofs.Common.{◌≡◌, ◌+◌, ◌*◌, refl, arith}
use Rattle.checksum.specs.Fold.{chain, held}
use Rattle.checksum.proofs.ChainLaws.{chain-two}
use Rattle.checksum.proofs.words.paired.Goals as goal

pub loop-k-init : goal.loop-k-init
unfolding chain
loop-k-init c = refl

pub loop-k-preserved : goal.loop-k-preserved
loop-k-preserved c =
    let k = c.loop-k.k in
    let p = c.fold128-p in
    let passed : 2 * (k + 1) + 1 ≡ 2 * k + 1 + 2 = omega arith in
    let second : 2 * k + 2 ≡ 2 * k + 1 + 1 = omega arith in
    rw (passed, second) (chain-two c.args.v.now (2 * k + 1) c.loop-k.low c.loop-k.high p.result.low p.result.high p.ensures c.loop-k.invariant)

pub returns : goal.returns
unfolding held
returns c =
    let all : 2 * c.loop-k.k + 1 ≡ 15 = omega arith in
    rw all at c.loop-k.invariant
