use Rattle.std.proofs.Common.{rules}
use Rattle.wire.specs.Limits.{limits_of}
use Rattle.wire.proofs.limits_of.Goals as goal

pub returns-in-1 : goal.returns-in-1
unfolding limits_of
returns-in-1 c = simp c.in-1.is

pub returns-in-2 : goal.returns-in-2
unfolding limits_of
returns-in-2 c = simp c.in-2.is

pub returns-in_default : goal.returns-in_default
unfolding limits_of
returns-in_default c = search rules
