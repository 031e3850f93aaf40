-- Invariant: the words counted, with the spaces that are left, are those of the whole line.
use Rattle.views.specs.Words.{spaces}
use Rattle.std.proofs.Common.{◌≡◌, ◌+◌, ◌≤◌, drop}
use Rattle.views.proofs.words.count.Given as goal

abbrev pub invariant-loop-c : goal.invariant-loop-c
invariant-loop-c l = (l.n ≤ l.c-index + 1) × (l.n + spaces (drop l.c-index l.line) ≡ spaces l.line + 1)
