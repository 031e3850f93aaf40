use Rattle.std.proofs.Common.{sym, arith}
use Rattle.views.proofs.WordLaws.{word-ends, word-last, word-missing, word_on, word_next}
use Rattle.views.proofs.words.word.Goals as goal
use Rattle.views.proofs.words.word.Goals.{then-c-eq32+else-left-eq0, else-c-eq32}

pub returns-then-left-eq0 : goal.returns-then-left-eq0
returns-then-left-eq0 c = word-ends c.loop-i.invariant c.loop-i-test.true c.if-c-eq32.true c.if-left-eq0.true

pub loop-i-preserved : goal.loop-i-preserved
loop-i-preserved c = elim c.if-c-eq32.branch [ then-c-eq32+else-left-eq0 w ↦ rw (w.left-is, w.start-is) (word_next c.loop-i.invariant c.loop-i-test.true w.if-c-eq32.true (omega (arith, w.if-left-eq0.false))) | else-c-eq32 w ↦ rw (w.left-is, w.start-is) (word_on c.loop-i.invariant c.loop-i-test.true w.if-c-eq32.false) ]

pub returns-then-left-eq0-2 : goal.returns-then-left-eq0-2
returns-then-left-eq0-2 c = word-last c.loop-i.invariant c.loop-i-test.false c.if-left-eq0-2.true

pub returns-else-left-eq0-2 : goal.returns-else-left-eq0-2
returns-else-left-eq0-2 c = sym (word-missing c.loop-i.invariant c.loop-i-test.false (omega (arith, c.if-left-eq0-2.false)))
