use Rattle.views.proofs.WordLaws.{spaces-more, spaces-same, spaces-done}
use Rattle.std.proofs.Common.{arith}
use Rattle.views.proofs.words.count.Goals as goal
use Rattle.views.proofs.words.count.Goals.{then-c-eq32, else-c-eq32}

pub loop-c-preserved : goal.loop-c-preserved
loop-c-preserved c =
    let s = c.args.line.now in
    let i = c.loop-c.c-index in
    elim c.if-c-eq32.branch [
      | then-c-eq32 w ↦ rw w.n-is (omega (arith, c.loop-c.invariant.0), omega (arith, spaces-more s i c.loop-c-test.true w.if-c-eq32.true, c.loop-c.invariant.1))
      | else-c-eq32 w ↦ rw w.n-is (omega (arith, c.loop-c.invariant.0), omega (arith, spaces-same s i c.loop-c-test.true w.if-c-eq32.false, c.loop-c.invariant.1))
    ]

pub returns : goal.returns
returns c = omega (arith, spaces-done c.args.line.now c.loop-c.c-index c.loop-c-test.false, c.loop-c.invariant.1)
