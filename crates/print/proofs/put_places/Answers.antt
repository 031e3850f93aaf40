use Prim.Native.Nat.{suc, ◌+◌, ◌-◌}
use native.Mathlib.Omega.{arith}
use mathlib.Core.Path.{◌≡◌, refl, sym, ◌∙◌}
use lib.ListN.{length-set}
use Rattle.print.proofs.DegreeLaws.{places-left, places-done}
use Rattle.print.proofs.put_places.Goals as goal

pub loop-i-init : goal.loop-i-init
loop-i-init c = (refl, refl)

pub loop-i-preserved : goal.loop-i-preserved
loop-i-preserved c =
    let i = c.loop-i.i in
    let at : c.args.to + 1 + (i - 1) ≡ c.args.to + i = omega (arith, c.loop-i-test.true) in
    rw at (simp length-set (c.loop-i.invariant.0 ∙ length-set c.args.out.now c.args.to 46), sym (places-left c.loop-i.out c.args.to i c.loop-i.rest c.loop-i-test.true) ∙ c.loop-i.invariant.1)

pub shape_of-out : goal.shape_of-out
shape_of-out c = c.loop-i.invariant.0 ∙ length-set c.args.out.now c.args.to 46

pub returns : goal.returns
returns c = sym (places-done c.loop-i.out (suc c.args.to) c.loop-i.i c.loop-i.rest (omega arith)) ∙ c.loop-i.invariant.1
