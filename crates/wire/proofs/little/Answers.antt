use Rattle.std.proofs.Common.{◌≡◌, ◌+◌, ◌-◌, sym, ap, arith}
use Rattle.wire.proofs.Shifts.{little-one, little-or}
use Rattle.wire.proofs.Widths.{bytes-fit}
use Rattle.wire.specs.Numbers.{little_at}
use Rattle.wire.proofs.little.Goals as goal

pub loop-i-init : goal.loop-i-init
unfolding little_at
loop-i-init c = let none : c.args.w - c.args.w ≡ 0 = omega arith in ap (little_at c.args.s.now (c.args.at + c.args.w)) (sym none)

pub loop-i-preserved : goal.loop-i-preserved
loop-i-preserved c =
    let s = c.args.s.now in
    let w = c.args.w in
    let i = c.loop-i.i in
    let at = c.args.at + (i - 1) in
    let place : c.args.at + i ≡ at + 1 = omega arith in
    let width : 1 + (w - i) ≡ w - (i - 1) = omega arith in
    let rest = rw place at c.loop-i.invariant in
    let byte = little-one s at in
    let joined = little-or s at 1 (w - i) 64 (bytes-fit s c.type_inv.s) (omega arith) in
    let whole = ap (little_at s at) width in
    cc

pub returns : goal.returns
returns c =
    let none : c.loop-i.i ≡ 0 = omega arith in
    let place : c.args.at + 0 ≡ c.args.at = omega arith in
    let width : c.args.w - 0 ≡ c.args.w = omega arith in
    rw (none, place, width) at c.loop-i.invariant
