use Rattle.wire.proofs.Shifts.{number-add}
use Rattle.wire.proofs.Widths.{get_d-bytes, number-below}
use Rattle.wire.specs.Numbers.{number_at}
use mathlib.Core.Path.{◌≡◌, ap}
use lib.Dec.{lit≤}
use native.Mathlib.Omega.{arith}
use Prim.Native.Nat.{ℕ, ◌+◌}
use Rattle.contents.proofs.motion.Goals as goal

pub returns : goal.returns
returns c = let s = c.args.s.now in
    let at = c.args.at in
    let next : at + 16 + 1 ≡ at + 17 = omega arith in
    let low = number-below s (at + 17) 7 7 (get_d-bytes s (λ k. (c.type_inv.s k).fits)) (lit≤ tt) in
    omega (arith, c.be64-low.ensures, c.short_number-priority.ensures, c.short_number-reason.ensures, number-add s (at + 16) 1 7, ap (λ (n : ℕ). number_at s n 7) next, low)
