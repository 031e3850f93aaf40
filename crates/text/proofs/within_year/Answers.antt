use Rattle.std.proofs.Common.{◌≡◌, arith}
use Rattle.text.specs.Calendar.{months_long}
use Rattle.text.proofs.CalendarLaws.{leap_small, month-turn, december}
use Rattle.text.proofs.within_year.Goals as goal

pub loop-month-init : goal.loop-month-init
unfolding months_long
loop-month-init c = omega arith

pub loop-month-preserved : goal.loop-month-preserved
loop-month-preserved c =
    rw c.month_days-days.ensures (month-turn c.args.year c.loop-month.month c.loop-month.left c.args.rest c.loop-month.auto.month (omega arith) c.loop-month.invariant)

pub overflow_add-result-2 : goal.overflow_add-result-2
overflow_add-result-2 c = omega (arith, leap_small c.args.year, c.ranges.rest.fits)

pub returns : goal.returns
returns c =
    let last : c.loop-month.month ≡ 12 = omega (arith, c.loop-month.auto.month-end (omega arith)) in
    december c.args.year c.loop-month.left c.args.rest c.requires (rw last at c.loop-month.invariant)
