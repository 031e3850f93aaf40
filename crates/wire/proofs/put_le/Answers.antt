use Rattle.std.proofs.Common.{◌≡◌, ℕ, suc, ◌+◌, ◌-◌, ◌/◌, ◌%◌, sym, ap₂, ◌∙◌, arith}
use lib.ListN.{set, length-set}
use lib.Seq.{sets}
use Rattle.wire.specs.Numbers.{le}
use Rattle.wire.proofs.Storing.{le_left}
use Rattle.wire.proofs.put_le.Goals as goal

pub loop-i-preserved : goal.loop-i-preserved
loop-i-preserved c =
    let i = c.loop-i.i in
    let place : c.args.at + (i + 1) ≡ suc (c.args.at + i) = omega arith in
    let left : c.args.w - (i + 1) ≡ c.args.w - i - 1 = omega arith in
    (simp length-set c.loop-i.invariant.0, ap₂ (λ (j k : ℕ). sets (set c.loop-i.out (c.args.at + i) (c.loop-i.rest % 256)) j (le k (c.loop-i.rest / 256))) place left ∙ sym (le_left _ _ _ _ (omega arith)) ∙ c.loop-i.invariant.1)

pub returns : goal.returns
unfolding le
returns c = let done : c.args.w - c.loop-i.i ≡ 0 = omega arith in rw done at c.loop-i.invariant.1
