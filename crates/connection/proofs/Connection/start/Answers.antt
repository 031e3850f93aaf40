use Rattle.connection.specs.State.{padded, phase_number, kept, fresh, started}
use Rattle.wire.specs.declared.Limits.{Limits}
use Rattle.wire.specs.Limits.{limits_of}
use Rattle.wire.specs.declared.Refusal.{Refusal}
use Rattle.wire.proofs.LimitLaws.{known_small}
use Rattle.wire.proofs.Accepting.{pick_true, pick-false}
use borrow.Author.Tests.{le-leb, lt-leb}
use mathlib.Core.List.{List}
use mathlib.Core.Path.{sym, ap, ap₂, ◌∙◌}
use Prim.Native.Nat.{ℕ, ◌≤◌, ◌<◌}
use native.Mathlib.Omega.{arith}
use Rattle.connection.proofs.Connection.start.Goals as goal

pub returns-then-limits_of-lt1 : goal.returns-then-limits_of-lt1
unfolding started fresh kept padded phase_number
returns-then-limits_of-lt1 c = let low : (limits_of c.args.family).largest < 1 = omega (arith, c.if-limits_of-lt1.true, ap (λ (l : Limits). l.largest) c.limits_of.ensures) in
    ap₂ (λ (x : Refusal) (h : List ℕ). record { refusal = x; state = record { held = h; fill = 0; phase = 2; family = 1 } }) c.of.ensures c.none-held.ensures
    ∙ sym (pick-false _ _ _ (lt-leb 1 (limits_of c.args.family).largest low))

pub overflow_cast-result : goal.overflow_cast-result
overflow_cast-result c = let known : 1 ≤ (limits_of c.args.family).largest = omega (arith, c.if-limits_of-lt1.false, ap (λ (l : Limits). l.largest) c.limits_of.ensures) in omega (arith, known_small c.args.family known)

pub returns : goal.returns
unfolding started fresh kept padded phase_number
returns c = let known : 1 ≤ (limits_of c.args.family).largest = omega (arith, c.if-limits_of-lt1.false, ap (λ (l : Limits). l.largest) c.limits_of.ensures) in
    ap₂ (λ (x : Refusal) (h : List ℕ). record { refusal = x; state = record { held = h; fill = 0; phase = 0; family = c.args.family } }) c.of-2.ensures c.none-held.ensures
    ∙ sym (pick_true _ _ _ (le-leb 1 (limits_of c.args.family).largest known))
