use Rattle.std.proofs.Common.{sym, ◌∙◌, arith}
use Rattle.text.proofs.HexLaws.{kind-first, kind-digit, kind-space, kind-other, kind-done}
use Rattle.text.proofs.kind_of.Goals as goal
use Rattle.text.proofs.kind_of.Goals.{in-Digit, in-Space}

pub loop-c-init : goal.loop-c-init
loop-c-init c = (omega arith, kind-first _)

pub loop-c-preserved : goal.loop-c-preserved
loop-c-preserved c =
    elim c.match-mark_of.branch [
      | in-Digit w ↦ rw w.n-is (omega arith, kind-digit _ _ c.loop-c-test.true _ (sym c.mark_of.ensures ∙ w.in-Digit.is) ∙ c.loop-c.invariant.1)
      | in-Space w ↦ rw w.n-is (omega arith, kind-space _ _ c.loop-c-test.true _ (sym c.mark_of.ensures ∙ w.in-Space.is) ∙ c.loop-c.invariant.1)
    ]

pub returns-in-Other : goal.returns-in-Other
returns-in-Other c = sym (kind-other _ _ c.loop-c-test.true c.loop-c.n (sym c.mark_of.ensures ∙ c.in-Other.is)) ∙ c.loop-c.invariant.1

pub returns : goal.returns
returns c = sym (kind-done _ _ _ c.loop-c-test.false) ∙ c.loop-c.invariant.1
