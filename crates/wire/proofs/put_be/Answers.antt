use Rattle.std.proofs.Common.{◌≡◌, sym, ◌∙◌, arith}
use lib.ListN.{length-set}
use Rattle.wire.specs.Numbers.{digits}
use Rattle.wire.proofs.Storing.{be-left}
use Rattle.wire.proofs.put_be.Goals as goal

pub loop-i-preserved : goal.loop-i-preserved
loop-i-preserved c = (simp length-set c.loop-i.invariant.0, sym (be-left _ _ _ _ c.loop-i-test.true) ∙ c.loop-i.invariant.1)

pub returns : goal.returns
unfolding digits
returns c = let done : c.loop-i.i ≡ 0 = omega arith in rw done at c.loop-i.invariant.1
