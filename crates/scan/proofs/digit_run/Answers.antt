use lib.Dec.{lit<}
use mathlib.Core.Path.{◌≡◌, sym, ◌∙◌}
use native.Mathlib.Omega.{arith}
use lib.ListN.{get_or}
use Prim.Native.Nat.{◌+◌, ◌-◌, ◌*◌}
use Rattle.scan.proofs.RunLaws.{run-start, run-turn, run-large, run-stop, run_end}
use Rattle.scan.proofs.digit_run.Goals as goal

pub loop-i-init : goal.loop-i-init
loop-i-init c = (run-start _ _ c.requires, lit< tt)

pub returns-then-not-is_ascii_digit : goal.returns-then-not-is_ascii_digit
returns-then-not-is_ascii_digit c = run-stop _ _ c.loop-i.invariant.0 c.loop-i-test.true (sym c.is_ascii_digit.ensures.value ∙ c.if-not-is_ascii_digit.true) c.loop-i.invariant.1

pub returns-in_err-checked_mul : goal.returns-in_err-checked_mul
returns-in_err-checked_mul c = c.from_residual.ensures ∙ run-large _ _ c.loop-i.invariant.0 c.loop-i-test.true (sym c.is_ascii_digit.ensures.value ∙ c.if-not-is_ascii_digit.false) (omega (arith, c.in_err-checked_mul.ensures))

pub returns-in_err-n : goal.returns-in_err-n
returns-in_err-n c = c.from_residual-in_err-n.ensures ∙ run-large _ _ c.loop-i.invariant.0 c.loop-i-test.true (sym c.is_ascii_digit.ensures.value ∙ c.if-not-is_ascii_digit.false) (omega (arith, c.in_err-n.ensures, c.in_ok-checked_mul.ensures.1))

pub loop-i-preserved : goal.loop-i-preserved
loop-i-preserved c =
    let more = run-turn _ _ c.loop-i.invariant.0 c.loop-i-test.true (sym c.is_ascii_digit.ensures.value ∙ c.if-not-is_ascii_digit.false) in
    let n : c.loop-i.n * 10 + (get_or c.args.t.now c.loop-i.i 0 - 48) ≡ c.in_ok-n.n = omega (arith, c.in_ok-n.ensures.1, c.in_ok-checked_mul.ensures.1) in
    (rw n at more, omega (arith, c.in_ok-n.ensures))

pub returns : goal.returns
returns c = run_end _ _ c.loop-i.invariant.0 c.loop-i-test.false c.loop-i.invariant.1
