use native.Mathlib.Omega.{arith}
use Rattle.text.proofs.DecimalLaws.{decimal-most}
use Rattle.print.proofs.store_decimal.Goals as goal

pub overflow_add-end : goal.overflow_add-end
overflow_add-end c = omega (arith, c.requires, c.digit_count-count.ensures, decimal-most c.args.n)

pub put_decimal-requires : goal.put_decimal-requires
put_decimal-requires c = (c.digit_count-count.ensures, c.if-end-out.true)

pub returns-then-end-out : goal.returns-then-end-out
returns-then-end-out c = record { place = omega (arith, c.digit_count-count.ensures); buffer = c.put_decimal.ensures }

pub cut_decimal-requires : goal.cut_decimal-requires
cut_decimal-requires c = (c.digit_count-count.ensures, omega (arith, c.requires))

pub returns : goal.returns
returns c = c.cut_decimal.ensures
