use Rattle.wire.proofs.Passing.{given_back}
use Rattle.std.proofs.Common.{◌≡◌, ◌+◌, ◌-◌, ◌<◌, sym, ◌∙◌, arith}
use lib.Dec.{lit<, lit≤}
use Rattle.wire.proofs.DigitLaws.{numbered_of, numbered-unread, numbered-got, numbered-bad, room-first, digits-start, digits-turn, digits-stop, digits-below, digits-done}
use Rattle.wire.proofs.ImeiPacked.{pair-exact}
use Rattle.wire.proofs.Widths.{bytes-fit}
use Rattle.wire.proofs.pairs_from.Goals as goal

pub loop-i-init : goal.loop-i-init
loop-i-init c = digits-start _ 100 c.args.n c.requires.2 (room-first 100 8 (lit< tt) c.requires.0 c.requires.1)

pub returns-in_err-pair : goal.returns-in_err-pair
returns-in_err-pair c =
    let stopped = numbered-unread _ (sym c.in_err-pair.ensures) in
    let some : 0 < c.args.n - c.loop-i._i = omega arith in
    given_back c.from_residual.ensures.1 ∙ sym (numbered-bad _ (digits-stop some c.loop-i.invariant stopped))

pub loop-i-preserved : goal.loop-i-preserved
loop-i-preserved c =
    let digit = numbered_of _ (sym c.in_ok-pair.ensures) in
    let some : 0 < c.args.n - c.loop-i._i = omega arith in
    let left : c.args.n - c.loop-i._i - 1 ≡ c.args.n - (c.loop-i._i + 1) = omega arith in
    rw left at (digits-turn some c.loop-i.invariant (pair-exact 9 (lit≤ tt)) (bytes-fit c.args.s.now c.type_inv.s) digit)

pub overflow_mul-value : goal.overflow_mul-value
overflow_mul-value c = omega (arith, digits-below (lit< tt) (loop-i-preserved c))

pub overflow_add-value : goal.overflow_add-value
overflow_add-value c = omega (arith, digits-below (lit< tt) (loop-i-preserved c))

pub returns : goal.returns
returns c = sym (numbered-got _ (digits-done (omega arith) c.loop-i.invariant))
