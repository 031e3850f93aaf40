use mathlib.Core.Path.{◌∙◌, refl}
use native.Mathlib.Omega.{arith}
use lib.ListN.{length-set}
use Rattle.text.specs.Decimal.{decimal}
use Rattle.store.proofs.StoredLaws.{stored_on, stored_of}
use Rattle.print.proofs.DegreeLaws.{stored-mark}
use Rattle.text.proofs.DecimalLaws.{decimal-most}
use Rattle.print.proofs.store_marked.Goals as goal

pub overflow_add-first : goal.overflow_add-first
overflow_add-first c = omega (arith, c.requires)

pub overflow_add-end : goal.overflow_add-end
overflow_add-end c = omega (arith, c.requires, c.digit_count-count.ensures, decimal-most c.args.n)

pub bounds-out-to : goal.bounds-out-to
bounds-out-to c = omega (arith, c.if-end-out.true)

pub put_decimal-requires : goal.put_decimal-requires
put_decimal-requires c = (c.digit_count-count.ensures, simp length-set c.if-end-out.true)

pub shape_of-out-then-end-out : goal.shape_of-out-then-end-out
shape_of-out-then-end-out c = c.put_decimal.auto.out ∙ length-set c.args.out.now c.args.to c.args.mark

pub returns-then-end-out : goal.returns-then-end-out
returns-then-end-out c = record { place = omega (arith, c.digit_count-count.ensures); buffer = (stored_on {l = c.args.out.now} (stored-mark {b = c.args.mark} refl) (stored_of (decimal c.args.n) c.put_decimal.ensures) refl).buffer }

pub cut_decimal-requires : goal.cut_decimal-requires
cut_decimal-requires c = (c.digit_count-count.ensures, omega (arith, c.requires))

pub returns : goal.returns
returns c = stored_on (stored-mark c.store_byte.ensures) c.cut_decimal.ensures refl
