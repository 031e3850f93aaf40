-- Each way out is a law of the piece.
use Rattle.scan.proofs.TagLaws.{piece-none, piece-end, piece-early, piece-escape, piece-no-escape, piece-plain, piece-other}
use native.Mathlib.Omega.{arith}
use mathlib.Core.Path.{sym, ◌∙◌}
use Rattle.scan.proofs.piece_at.Goals as goal

pub returns-then-i-t : goal.returns-then-i-t
returns-then-i-t c = piece-none _ _ c.if-i-t.true

pub returns-then-ends : goal.returns-then-ends
returns-then-ends c = piece-end c.args.t.now c.args.i (omega arith) c.if-c-eq34.true (sym c.ends.ensures ∙ c.if-ends.true)

pub returns-then-c-eq34 : goal.returns-then-c-eq34
returns-then-c-eq34 c = piece-early c.args.t.now c.args.i (omega arith) c.if-c-eq34.true (sym c.ends.ensures ∙ c.if-ends.false)

pub returns-then-c-eq92 : goal.returns-then-c-eq92
returns-then-c-eq92 c = piece-escape _ _ (omega arith) c.if-c-eq92.true (rw c.in_ok-b.was at c.escape_at.ensures)

pub returns-in_err-b : goal.returns-in_err-b
returns-in_err-b c = rw c.from_residual.ensures (piece-no-escape c.args.t.now c.args.i (omega arith) c.if-c-eq92.true (rw c.in_err-b.was at c.escape_at.ensures))

pub returns-then-is_plain : goal.returns-then-is_plain
returns-then-is_plain c = piece-plain _ _ (omega arith) c.if-c-eq34.false c.if-c-eq92.false (sym c.is_plain.ensures ∙ c.if-is_plain.true)

pub returns-else-is_plain : goal.returns-else-is_plain
returns-else-is_plain c = piece-other c.args.t.now c.args.i (omega arith) c.if-c-eq34.false c.if-c-eq92.false (sym c.is_plain.ensures ∙ c.if-is_plain.false)
