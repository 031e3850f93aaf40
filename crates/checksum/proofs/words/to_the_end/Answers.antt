use Rattle.std.proofs.Common.{◌≡◌, ◌+◌, ◌*◌, arith}
use native.Mathlib.Nat.{add-zero}
use lib.Bits.{bit_xor}
use Rattle.wire.proofs.Widths.{get_d-bytes}
use Rattle.checksum.specs.Fold.{joined}
use Rattle.checksum.proofs.WordLaws.{moved, next-odd, next-two, all_words}
use Rattle.checksum.proofs.words.to_the_end.Goals as goal
use Rattle.checksum.proofs.words.to_the_end.Goals.{then-s-at-ge8, else-s-at-ge8}

pub loop-k-init : goal.loop-k-init
loop-k-init c =
    let s = c.args.s.now in
    let from = c.args.from in
    let now = c.if-s-at-ge8 in
    let bytes = get_d-bytes s (λ i. (c.type_inv.s i).fits) in
    rw (add-zero now.at)
    (elim now.branch [
      | then-s-at-ge8 w ↦ (
        omega (arith, w.if-s-at-ge8.true, w.at-is, c.requires.0, c.requires.1),
        omega (arith, w.if-s-at-ge8.true, w.at-is, c.requires.0, c.requires.1),
        moved s now.at now.low now.high now.parity (from.at + 8) (bit_xor w.fold64.result from.high) w.le64-high.result (bit_xor from.parity w.le64-high.result) w.at-is w.low-is w.high-is w.parity-is
            (next-odd s from.at from.low from.high w.fold64.result from.parity w.le64-high.result bytes (omega (arith, w.if-s-at-ge8.true, c.requires.0)) w.le64-high.type_inv w.le64-high.ensures w.fold64.ensures c.requires.2),
      )
      | else-s-at-ge8 w ↦ (
        omega (arith, w.at-is, c.requires.0),
        omega (arith, w.if-s-at-ge8.false, w.at-is, c.requires.0, c.requires.1),
        moved s now.at now.low now.high now.parity from.at from.low from.high from.parity w.at-is w.low-is w.high-is w.parity-is c.requires.2,
      )
    ])

pub loop-k-preserved : goal.loop-k-preserved
loop-k-preserved c =
    let s = c.args.s.now in
    let loop = c.loop-k in
    let at = c.if-s-at-ge8.at in
    let first = c.le64-first in
    let second = c.le64-second in
    let p = c.fold128-p in
    let step : at + 16 * (loop.k + 1) ≡ at + 16 * loop.k + 16 = omega arith in (
      loop.invariant.0,
      loop.invariant.1,
      rw step (next-two s (at + 16 * loop.k) loop.low loop.high p.result.low p.result.high loop.parity first.result second.result
          (get_d-bytes s (λ i. (c.type_inv.s i).fits)) (omega arith) first.type_inv second.type_inv first.ensures second.ensures p.ensures loop.invariant.2),
    )

pub returns : goal.returns
returns c =
    let s = c.args.s.now in
    let loop = c.loop-k in
    all_words s (c.if-s-at-ge8.at + 16 * loop.k) (joined 64 loop.low loop.high) loop.parity c.with_parity.result c.narrowed.result (omega arith)
    c.narrowed.ensures c.with_parity.ensures.0 c.with_parity.ensures.1 loop.invariant.2
