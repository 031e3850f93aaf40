use Rattle.wire.proofs.Passing.{given_back}
use Prim.Native.Nat.{ℕ, ◌+◌, ◌-◌}
use native.Mathlib.Omega.{arith}
use mathlib.Core.Path.{◌≡◌, sym, ap, ◌∙◌}
use Rattle.wire.specs.Reading.{walked, repeat}
use Rattle.wire.proofs.Widths.{get_d-bytes}
use Rattle.wire.proofs.Walking.{walked_on, walked-stopped}
use Rattle.avl.specs.RecordReader.{element}
use Rattle.walk.proofs.WalkLaws.{walked-inside, repeat-none, repeat-on, repeat-stops}
use Rattle.avl.proofs.RecordLaws.{element-exact}
use Rattle.walk.proofs.variables_at.Goals as goal

pub returns-in_err-next : goal.returns-in_err-next
returns-in_err-next c =
    let args = c.args in
    let loop = c.loop-i in
    let stop = walked-stopped _ (sym c.in_err-next.ensures) in
    given_back c.from_residual.ensures.1 ∙ sym (repeat-stops (element args.w.widths 9) args.s.now (args.n - loop._i) loop.next (omega (arith, c.loop-i-test.true)) stop) ∙ loop.invariant.1

pub loop-i-preserved : goal.loop-i-preserved
loop-i-preserved c =
    let args = c.args in
    let loop = c.loop-i in
    let s = args.s.now in
    let on = sym c.in_ok-next.ensures in
    let less : args.n - (loop._i + 1) ≡ args.n - loop._i - 1 = omega arith in (
      walked-inside (element-exact args.w.widths 9) s loop.next (get_d-bytes s (λ k. (c.type_inv.s k).fits)) loop.invariant.0 on,
      ap (λ (k : ℕ). walked (repeat k (element args.w.widths 9) s c.in_ok-next.next)) less
          ∙ repeat-on (element args.w.widths 9) s (args.n - loop._i) loop.next (omega (arith, c.loop-i-test.true)) (walked_on _ on).1
          ∙ loop.invariant.1,
    )

pub returns : goal.returns
returns c =
    let args = c.args in
    let loop = c.loop-i in
    sym (repeat-none (element args.w.widths 9) args.s.now (args.n - loop._i) loop.next (omega (arith, c.loop-i-test.false))) ∙ loop.invariant.1
