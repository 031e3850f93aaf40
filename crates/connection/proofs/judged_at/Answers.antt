use Rattle.connection.specs.State.{Gathered, held_by, is_zero, phase_of, opened, count_of, judged_at}
use Rattle.stream.specs.Stream.{needed}
use Rattle.connection.proofs.PaddedLaws.{front-part, rest_part}
use Rattle.connection.proofs.OpenLaws.{at_more, at-full, at-refused}
use Rattle.wire.specs.Answers.{check_at, on_accepted}
use borrow.Author.Tests.{le-leb, lt-leb, eq-eqb, ne_eqb}
use lib.ListN.{drop}
use mathlib.Core.Path.{◌≡◌, sym, ap, ◌∙◌}
use Rattle.connection.proofs.judged_at.Goals as goal

pub returns-then-limits-lt1 : goal.returns-then-limits-lt1
unfolding count_of judged_at opened check_at on_accepted
returns-then-limits-lt1 c = simp (lt-leb _ _ c.if-limits-lt1.true)

pub returns-then-phase-gt1 : goal.returns-then-phase-gt1
unfolding count_of judged_at opened check_at on_accepted
returns-then-phase-gt1 c = simp (le-leb _ _ c.if-limits-lt1.false, lt-leb _ _ c.if-phase-gt1.true)

pub returns-then-held-ne-LARGEST : goal.returns-then-held-ne-LARGEST
unfolding count_of judged_at opened check_at on_accepted
returns-then-held-ne-LARGEST c = simp (le-leb _ _ c.if-limits-lt1.false, le-leb _ _ c.if-phase-gt1.false, ne_eqb _ _ c.if-held-ne-LARGEST.true)

pub returns-then-fill-gt-LARGEST : goal.returns-then-fill-gt-LARGEST
unfolding count_of judged_at opened check_at on_accepted
returns-then-fill-gt-LARGEST c = simp (le-leb _ _ c.if-limits-lt1.false, le-leb _ _ c.if-phase-gt1.false, eq-eqb _ _ c.if-held-ne-LARGEST.false, lt-leb _ _ c.if-fill-gt-LARGEST.true)

pub returns-then-union-ne0 : goal.returns-then-union-ne0
unfolding count_of judged_at opened check_at on_accepted
returns-then-union-ne0 c = let spare : is_zero (drop c.args.fill c.args.held.now) ≡ _ = sym (c.union.ensures ∙ ap is_zero (rest_part c.args.held.now c.args.fill)) in simp (le-leb _ _ c.if-limits-lt1.false, le-leb _ _ c.if-phase-gt1.false, eq-eqb _ _ c.if-held-ne-LARGEST.false, le-leb _ _ c.if-fill-gt-LARGEST.false, spare, ne_eqb _ _ c.if-union-ne0.true)

pub returns-then-fill-n : goal.returns-then-fill-n
unfolding held_by
returns-then-fill-n c = let held = c.args.held.now in let k : Gathered = record { held = held; fill = c.args.fill; phase = c.args.phase } in let spare = sym (c.union.ensures ∙ ap is_zero (rest_part held c.args.fill)) ∙ eq-eqb _ _ c.if-union-ne0.false in let tells = sym (c.needed.ensures ∙ ap (needed c.args.limits (phase_of c.args.phase)) (front-part held c.args.fill)) ∙ c.in-Ok.is in sym (at_more c.args.limits 1280 k c.if-limits-lt1.false c.if-phase-gt1.false c.if-held-ne-LARGEST.false c.if-fill-gt-LARGEST.false spare _ tells c.if-fill-n.true)

pub returns-in-Err : goal.returns-in-Err
unfolding held_by
returns-in-Err c = let held = c.args.held.now in let k : Gathered = record { held = held; fill = c.args.fill; phase = c.args.phase } in let spare = sym (c.union.ensures ∙ ap is_zero (rest_part held c.args.fill)) ∙ eq-eqb _ _ c.if-union-ne0.false in let tells = sym (c.needed.ensures ∙ ap (needed c.args.limits (phase_of c.args.phase)) (front-part held c.args.fill)) ∙ c.in-Err.is in sym (at-refused c.args.limits 1280 k c.if-limits-lt1.false c.if-phase-gt1.false c.if-held-ne-LARGEST.false c.if-fill-gt-LARGEST.false spare tells)

pub returns-else-fill-n : goal.returns-else-fill-n
unfolding held_by
returns-else-fill-n c = let held = c.args.held.now in let k : Gathered = record { held = held; fill = c.args.fill; phase = c.args.phase } in let spare = sym (c.union.ensures ∙ ap is_zero (rest_part held c.args.fill)) ∙ eq-eqb _ _ c.if-union-ne0.false in let tells = sym (c.needed.ensures ∙ ap (needed c.args.limits (phase_of c.args.phase)) (front-part held c.args.fill)) ∙ c.in-Ok.is in sym (at-full c.args.limits 1280 k c.if-limits-lt1.false c.if-phase-gt1.false c.if-held-ne-LARGEST.false c.if-fill-gt-LARGEST.false spare _ tells c.if-fill-n.false)
