use Rattle.wire.proofs.Passing.{given_back}
use Rattle.std.specs.Prelude.{Ok}
use Rattle.frame.specs.Frame.{field_length}
use Rattle.wire.specs.Answers.{on_accepted}
use Rattle.connection.specs.State.{phase_of}
use Rattle.stream.specs.Stream.{needed}
use Rattle.frame.proofs.FramingLaws.{header-field}
use borrow.Author.Tests.{eq-eqb, ne_eqb, le-leb, lt-leb}
use mathlib.Core.Path.{sym, ◌∙◌}
use native.Mathlib.Omega.{arith}
use Rattle.connection.proofs.needed.Goals as goal

pub returns-then-phase-eq0 : goal.returns-then-phase-eq0
unfolding needed phase_of
returns-then-phase-eq0 c = simp (eq-eqb _ _ c.if-phase-eq0.true)

pub returns-then-s-lt8 : goal.returns-then-s-lt8
unfolding needed phase_of
returns-then-s-lt8 c = simp (ne_eqb _ _ c.if-phase-eq0.false, lt-leb _ _ c.if-s-lt8.true)

pub overflow_add-result : goal.overflow_add-result
overflow_add-result c = omega (arith, header-field c.args.limits.largest c.args.s.now c.in_ok-size.size (sym c.in_ok-size.ensures))

pub returns-in_err-size : goal.returns-in_err-size
unfolding needed phase_of on_accepted
returns-in_err-size c = simp (given_back c.from_residual.ensures.1, ne_eqb _ _ c.if-phase-eq0.false, le-leb _ _ c.if-s-lt8.false, sym c.in_err-size.ensures)

pub returns : goal.returns
unfolding needed phase_of on_accepted
returns c = simp (ne_eqb _ _ c.if-phase-eq0.false, le-leb _ _ c.if-s-lt8.false, sym c.in_ok-size.ensures)
