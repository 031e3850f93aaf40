-- Four bytes at most hold a number below 2 ^ 32.
use native.Mathlib.Omega.{arith}
use Rattle.wire.proofs.Widths.{get_d-bytes, number-below}
use Rattle.command.proofs.read_time.Goals as goal

pub overflow_cast-result : goal.overflow_cast-result
overflow_cast-result c =
    let a = c.args in
    omega (arith, c.number.ensures, number-below a.s.now a.at a.w 4 (get_d-bytes a.s.now (λ i. (c.type_inv.s i).fits)) c.requires.1)
