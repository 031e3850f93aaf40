-- A line is wrong at one of its bytes or at its end, so the place in the input is a number.
use native.Mathlib.Omega.{arith}
use Rattle.report.proofs.BillingLaws.{wrong-within}
use Rattle.report.proofs.records.refuse_line.Goals as goal

pub overflow_add-place : goal.overflow_add-place
overflow_add-place g c = omega (arith, c.wrong_byte-at.ensures, wrong-within c.args.s.now, c.requires)
