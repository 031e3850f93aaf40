-- The writer's refusal is the one said; what is written has none.
use Rattle.report.specs.Shown.{refusal_number}
use Rattle.report.proofs.say_written.Goals as goal

pub returns-in-Err : goal.returns-in-Err
unfolding refusal_number
returns-in-Err g c = simp c.in-Err.is c.refuse.ensures

pub returns-in-Some : goal.returns-in-Some
unfolding refusal_number
returns-in-Some g c = simp c.in-Ok.is

pub returns-in_default : goal.returns-in_default
unfolding refusal_number
returns-in_default g c = simp c.in-Ok.is
