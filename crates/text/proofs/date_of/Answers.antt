use Rattle.std.proofs.Common.{◌-◌, ◌≤◌, arith}
use Rattle.text.specs.Calendar.{year_days, years_long}
use Rattle.text.proofs.CalendarLaws.{year-turn, years-long, date-in}
use Rattle.text.proofs.date_of.Goals as goal

pub loop-rest-init : goal.loop-rest-init
unfolding years_long
loop-rest-init c = (omega arith, omega arith)

pub overflow_add-year : goal.overflow_add-year
overflow_add-year c = omega (arith, years-long (c.loop-rest.year - 1970), c.ranges.days.fits)

pub loop-rest-preserved : goal.loop-rest-preserved
loop-rest-preserved c =
    let whole : year_days c.loop-rest.year ≤ c.loop-rest.rest = omega arith in
    (omega arith, rw c.year_days-rest.ensures (year-turn c.loop-rest.year c.loop-rest.rest c.args.days c.loop-rest.invariant.0 whole c.loop-rest.invariant.1))

pub returns : goal.returns
returns c = date-in c.loop-rest.year c.loop-rest.rest _ _ c.loop-rest.invariant.0 c.loop-rest.invariant.1 c.within_year.ensures
