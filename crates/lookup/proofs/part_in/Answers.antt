use Rattle.std.specs.Prelude.{Err}
use mathlib.Core.Path.{ap, sym, ◌∙◌}
use native.Mathlib.Omega.{arith}
use Rattle.wire.proofs.Passing.{given_back}
use Rattle.lookup.proofs.PartLaws.{walked-part, walked_none, walked-in, judged, judge-refused}
use Rattle.lookup.proofs.part_in.Goals as goal

pub overflow_cast-result : goal.overflow_cast-result
overflow_cast-result g c = omega (arith, (judged c.judge.ensures.carried c.args.n (sym c.in_ok-data.ensures.walk)).1)

pub overflow_add-result : goal.overflow_add-result
overflow_add-result g c =
    let h = c.judge.ensures.carried in
    omega (arith, walked-in (judged h c.args.n (sym c.in_ok-data.ensures.walk)).0 h.stored c.if-n-data.true)

pub overflow_add-result-then-n-data : goal.overflow_add-result-then-n-data
overflow_add-result-then-n-data g c =
    let h = c.judge.ensures.carried in
    omega (arith, walked-in (judged h c.args.n (sym c.in_ok-data.ensures.walk)).0 h.stored c.if-n-data.true)

pub returns-then-n-data-clause-part : goal.returns-then-n-data-clause-part
returns-then-n-data-clause-part g c = rw (c.BASE.ensures, c.BASE-then-n-data.ensures) (walked-part (judged c.judge.ensures.carried c.args.n (sym c.in_ok-data.ensures.walk)).0 c.if-n-data.true)

pub returns-in_err-data-clause-part : goal.returns-in_err-data-clause-part
returns-in_err-data-clause-part g c = given_back c.from_residual.ensures.1 ∙ judge-refused c.judge.ensures.carried c.args.n (sym c.in_err-data.ensures.walk)

pub returns-clause-part : goal.returns-clause-part
returns-clause-part g c = ap Err c.of.ensures ∙ walked_none (judged c.judge.ensures.carried c.args.n (sym c.in_ok-data.ensures.walk)).0 c.if-n-data.false
