use Rattle.std.proofs.Common.{◌≡◌, sym, ap, arith, rules}
use Rattle.wire.proofs.Shifts.{number-one}
use Rattle.wire.specs.Numbers.{number_at}
use Rattle.wire.proofs.short_number.Goals as goal

pub returns-in-1 : goal.returns-in-1
returns-in-1 c = search (rules, number-one)

pub returns-in_default : goal.returns-in_default
unfolding number_at
returns-in_default c = let none : c.args.w ≡ 0 = omega arith in sym (ap (number_at c.args.s.now c.args.at) none)
