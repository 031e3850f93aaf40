use lib.ListN.{length-take, length-drop}
use native.Mathlib.Omega.{arith}
use Rattle.store.proofs.CutLaws.{sets-cut}
use Rattle.text.specs.Decimal.{decimal}
use Rattle.text.proofs.DecimalLaws.{decimal-most}
use Rattle.print.proofs.DegreeLaws.{stored-apart}
use Rattle.print.proofs.cut_decimal.Goals as goal

pub overflow_add-result : goal.overflow_add-result
overflow_add-result c = omega (arith, c.requires.0, c.requires.1, decimal-most c.args.n)

pub returns-then-out-to : goal.returns-then-out-to
returns-then-out-to c = record { place = omega (arith, c.requires.0); buffer = sets-cut c.args.out.now c.args.to 0 (decimal c.args.n) (omega (arith, c.if-out-to.true)) }

pub put_decimal-requires : goal.put_decimal-requires
put_decimal-requires c = (c.requires.0, omega (arith, c.requires.0, decimal-most c.args.n))

pub slice_bounds-store_bytes-end : goal.slice_bounds-store_bytes-end
slice_bounds-store_bytes-end c = omega (arith, c.requires.0, decimal-most c.args.n)

pub store_bytes-requires : goal.store_bytes-requires
store_bytes-requires c = simp (length-take, length-drop) (omega (arith, c.requires.0, c.requires.1, decimal-most c.args.n))

pub returns : goal.returns
returns c = stored-apart _ (decimal c.args.n) c.requires.0 (omega (arith, decimal-most c.args.n)) (rw c.put_decimal.ensures at c.store_bytes.ensures)
