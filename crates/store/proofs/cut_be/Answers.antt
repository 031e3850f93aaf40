use Rattle.std.proofs.Common.{ℕ, ◌/◌, ◌-◌, ◌≡◌, sym, ap, ◌∙◌, List, length, arith}
use lib.ListN.{length-set}
use lib.Seq.{sets}
use Rattle.wire.specs.Numbers.{be, digits}
use Rattle.wire.proofs.Storing.{be-left}
use Rattle.store.proofs.cut_be.Goals as goal

pub loop-i-preserved : goal.loop-i-preserved
loop-i-preserved c = (ap length c.store_byte.ensures ∙ simp length-set c.loop-i.invariant.0, ap (λ (l : List ℕ). sets l c.args.to (be (c.loop-i.i - 1) (c.loop-i.rest / 256))) c.store_byte.ensures ∙ sym (be-left _ _ _ _ c.loop-i-test.true) ∙ c.loop-i.invariant.1)

pub returns : goal.returns
unfolding digits
returns c = let done : c.loop-i.i ≡ 0 = omega arith in rw done at c.loop-i.invariant.1
