-- An unknown family is refused, and nothing is fed.
use Rattle.report.specs.Shown.{connection_refusal}
use Rattle.wire.specs.declared.Limits.{Limits}
use Rattle.wire.specs.declared.Refusal.{Refusal}
use Rattle.wire.specs.Limits.{limits_of}
use Rattle.wire.proofs.Accepting.{pick_true, pick-false}
use borrow.Author.Tests.{le-leb, lt-leb}
use mathlib.Core.Path.{sym, ap, ◌∙◌}
use Prim.Native.Nat.{◌≤◌, ◌<◌}
use native.Mathlib.Omega.{arith}
use Rattle.report.proofs.show_connection.Goals as goal

pub returns-then-limits_of-lt1 : goal.returns-then-limits_of-lt1
unfolding connection_refusal
returns-then-limits_of-lt1 g c = let low : (limits_of c.args.family).largest < 1 = omega (arith, c.if-limits_of-lt1.true, ap (λ (l : Limits). l.largest) c.limits_of.ensures) in
    c.refuse.ensures ∙ ap (λ (r : Refusal). r.number) c.of-unknown.ensures ∙ sym (pick-false _ _ _ (lt-leb 1 (limits_of c.args.family).largest low))

pub show_feeds-requires : goal.show_feeds-requires
show_feeds-requires g c = omega (arith, c.if-limits_of-lt1.false, ap (λ (l : Limits). l.largest) c.limits_of.ensures)

pub returns : goal.returns
unfolding connection_refusal
returns g c = let known : 1 ≤ (limits_of c.args.family).largest = omega (arith, c.if-limits_of-lt1.false, ap (λ (l : Limits). l.largest) c.limits_of.ensures) in
    c.show_feeds.ensures ∙ sym (pick_true _ _ _ (le-leb 1 (limits_of c.args.family).largest known))
