-- Invariant: the word that starts at `start` is read up to `i` and has no space so far.
use Rattle.views.proofs.WordLaws.{WordLeft}
use Rattle.views.proofs.words.word.Given as goal

abbrev pub invariant-loop-i : goal.invariant-loop-i
invariant-loop-i l = WordLeft l.line l.k l.left l.start l.i
