use Rattle.report.proofs.ConnectionLaws.{begins, ended, fill-within, uses, goes_on, closes}
use mathlib.Core.Path.{refl, ◌∙◌}
use native.Mathlib.Omega.{arith}
use Rattle.report.proofs.show_feeds.Goals as goal

pub loop-at-init : goal.loop-at-init
loop-at-init g c = (refl, (refl, begins c.args.family c.args.p.now c.requires))

pub overflow_add-end : goal.overflow_add-end
overflow_add-end g c = omega (arith, (uses c.loop-at.invariant.1.1 c.loop-at-test.true c.loop-at.packet (omega (arith, c.loop-at.invariant.1.0)) c.feed_lent-fed.ensures.answer).1)

pub slice_bounds-say_item-end : goal.slice_bounds-say_item-end
slice_bounds-say_item-end g c = (uses c.loop-at.invariant.1.1 c.loop-at-test.true c.loop-at.packet (omega (arith, c.loop-at.invariant.1.0)) c.feed_lent-fed.ensures.answer).1

pub overflow_sub-p : goal.overflow_sub-p
overflow_sub-p g c = (uses c.loop-at.invariant.1.1 c.loop-at-test.true c.loop-at.packet (omega (arith, c.loop-at.invariant.1.0)) c.feed_lent-fed.ensures.answer).1

pub returns-then-phase-eq2 : goal.returns-then-phase-eq2
returns-then-phase-eq2 g c = c.say_item-number.ensures ∙ closes c.loop-at.invariant.1.1 c.loop-at-test.true c.loop-at.packet (omega (arith, c.loop-at.invariant.1.0)) c.feed_lent-fed.ensures.answer c.if-phase-eq2.true

pub loop-at-smaller : goal.loop-at-smaller
loop-at-smaller g c = let u = uses c.loop-at.invariant.1.1 c.loop-at-test.true c.loop-at.packet (omega (arith, c.loop-at.invariant.1.0)) c.feed_lent-fed.ensures.answer in omega (arith, u.0, u.1, c.loop-at-test.true)

pub loop-at-preserved : goal.loop-at-preserved
loop-at-preserved g c = (omega (arith, c.feed_lent-fed.auto.held), (omega (arith, c.feed_lent-fed.auto.packet), goes_on c.loop-at.invariant.1.1 c.loop-at-test.true c.loop-at.packet (omega (arith, c.loop-at.invariant.1.0)) c.feed_lent-fed.ensures.answer c.feed_lent-fed.ensures.state c.if-phase-eq2.false))

pub say_end-requires : goal.say_end-requires
say_end-requires g c = fill-within c.loop-at.invariant.1.1

pub returns : goal.returns
returns g c = ended c.loop-at.invariant.1.1 c.loop-at-test.false
