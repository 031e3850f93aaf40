use native.Mathlib.Omega.{arith}
use Rattle.wire.proofs.Widths.{bytes-fit, little-lt}
use Rattle.store.proofs.next_at.Goals as goal

pub overflow_add-result-2 : goal.overflow_add-result-2
overflow_add-result-2 c = omega (arith, c.little.ensures, little-lt c.args.f.now c.args.at 2 (bytes-fit c.args.f.now c.type_inv.f))
