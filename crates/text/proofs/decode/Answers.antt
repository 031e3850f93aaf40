use Rattle.std.proofs.Common.{sym, ◌∙◌, arith}
use Rattle.text.proofs.HexLaws.{digit-small, decode-start, decode-pair, decode-first, decode-skip, decode-done}
use Rattle.text.proofs.decode.Goals as goal
use Rattle.text.proofs.decode.Goals.{in-Digit+in-Some, in-Digit+in-None, in_default}

pub loop-c-init : goal.loop-c-init
loop-c-init c = decode-start _ _

pub overflow_add-h : goal.overflow_add-h
overflow_add-h c = omega (arith, rw c.in-Some.is at c.loop-c.invariant.small, digit-small _ (sym c.mark_of.ensures ∙ c.in-Digit.is))

pub loop-c-preserved : goal.loop-c-preserved
loop-c-preserved c =
    elim c.match-mark_of.branch [
      | in-Digit+in-Some w ↦ rw (w.out-is, w.to-is, w.high-is, w.store_byte.ensures) (decode-pair (rw w.in-Some.is at c.loop-c.invariant) c.loop-c-test.true (sym c.mark_of.ensures ∙ w.in-Digit.is))
      | in-Digit+in-None w ↦ rw (w.out-is, w.to-is, w.high-is) (decode-first (rw w.in-None.is at c.loop-c.invariant) c.loop-c-test.true (sym c.mark_of.ensures ∙ w.in-Digit.is))
      | in_default w ↦ rw (w.out-is, w.to-is, w.high-is) (decode-skip c.mark_of.result c.loop-c.invariant c.loop-c-test.true (sym c.mark_of.ensures) w.in_default.not-Digit)
    ]

pub returns-clause-count : goal.returns-clause-count
returns-clause-count c = (decode-done c.loop-c.invariant c.loop-c-test.false).0

pub returns-clause-buffer : goal.returns-clause-buffer
returns-clause-buffer c = (decode-done c.loop-c.invariant c.loop-c-test.false).1
