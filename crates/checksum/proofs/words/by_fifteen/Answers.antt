use Rattle.std.proofs.Common.{◌≡◌, ℕ, ◌+◌, ◌-◌, ◌*◌, ◌/◌, length, replicate, arith}
use native.Mathlib.Nat.{add-zero}
use Rattle.checksum.specs.Fold.{joined, held}
use Rattle.checksum.proofs.WordLaws.{otherwise}
use Rattle.checksum.proofs.ChainLaws.{set-fifteen, zeros, held-last}
use Rattle.checksum.proofs.words.by_fifteen.Goals as goal

pub loop-k-init : goal.loop-k-init
loop-k-init c =
    let args = c.args in
    (set-fifteen (replicate {A = ℕ} 15 0) 14 args.first zeros c.ranges.first.fits, rw (add-zero args.from) (held-last args.s.now args.from args.first args.first c.requires.2))

pub fold960-parity-requires : goal.fold960-parity-requires
fold960-parity-requires c = (omega arith, c.loop-k.invariant.0, c.loop-k.invariant.1)

pub loop-k-preserved : goal.loop-k-preserved
loop-k-preserved c =
    let from = c.args.from in
    let k = c.loop-k.k in
    let step : from + 120 * (k + 1) ≡ from + 120 * k + 120 = omega arith in
    (c.fold960-parity.ensures.0, rw step c.fold960-parity.ensures.1)

pub returns : goal.returns
returns c =
    let s = c.args.s.now in
    let from = c.args.from in
    let loop = c.loop-k in
    let p = c.paired-low in
    let all : (length s - from) / 120 ≡ loop.k = omega arith in
    (omega arith, omega arith, rw all (otherwise s (from + 120 * loop.k) (held loop.v) (joined 64 p.result.low p.result.high) loop.parity p.ensures loop.invariant.1))
