use native.Mathlib.Omega.{arith}
use Rattle.lookup.proofs.last_number.Goals as goal

pub returns-then-p-lt10 : goal.returns-then-p-lt10
returns-then-p-lt10 c = λ h. absurd (omega (arith, h, c.if-p-lt10.true))

pub overflow_cast-count : goal.overflow_cast-count
overflow_cast-count c = omega (arith, (c.type_inv.p 9).fits)

pub returns-then-count-lt1 : goal.returns-then-count-lt1
returns-then-count-lt1 c = λ h. omega (arith, c.if-count-lt1.true)

pub returns : goal.returns
returns c = λ h. omega arith
