use native.Mathlib.Omega.{arith}
use mathlib.Core.Path.{◌≡◌, sym, ◌∙◌}
use lib.ListN.{length-set}
use Rattle.wire.specs.Imei.{packed}
use Rattle.wire.specs.Numbers.{digits}
use Rattle.command.proofs.WriterLaws.{packed-left}
use Rattle.command.proofs.put_packed.Goals as goal

pub loop-i-preserved : goal.loop-i-preserved
loop-i-preserved c = (simp length-set c.loop-i.invariant.0, sym (packed-left _ _ _ _ c.loop-i-test.true) ∙ c.loop-i.invariant.1)

pub returns : goal.returns
unfolding packed digits
returns c = let done : c.loop-i.i ≡ 0 = omega arith in rw done at c.loop-i.invariant.1
