use Rattle.std.proofs.Common.{◌≡◌, ℕ, suc, ◌+◌, sym, ap₂, ◌∙◌, arith, []}
use lib.ListN.{set, get_or, drop, length-set, drop_of_length-le}
use lib.Seq.{sets}
use Rattle.wire.proofs.Storing.{drop-left}
use Rattle.wire.proofs.put_bytes.Goals as goal

pub loop-i-preserved : goal.loop-i-preserved
loop-i-preserved c =
    let i = c.loop-i.i in
    let b = c.args.src.now in
    let place : c.args.at + (i + 1) ≡ suc (c.args.at + i) = omega arith in
    let next : i + 1 ≡ suc i = omega arith in
    (simp length-set c.loop-i.invariant.0, ap₂ (λ (j k : ℕ). sets (set c.loop-i.out (c.args.at + i) (get_or b i 0)) j (drop k b)) place next ∙ sym (drop-left c.loop-i.out (c.args.at + i) i b (omega arith)) ∙ c.loop-i.invariant.1)

pub returns : goal.returns
returns c = let done : drop c.loop-i.i c.args.src.now ≡ [] = drop_of_length-le c.args.src.now {i = c.loop-i.i} (omega arith) in rw done at c.loop-i.invariant.1
