-- The reader's refusal is the one said; an accepted input has none.
use Rattle.report.specs.Shown.{refusal_number, command_refusal}
use Rattle.report.proofs.show_command.Goals as goal

pub returns-in-Err : goal.returns-in-Err
unfolding command_refusal refusal_number
returns-in-Err g c = simp (← c.read_command.ensures, c.in-Err.is) c.refuse.ensures

pub returns-in-Ok : goal.returns-in-Ok
unfolding command_refusal refusal_number
returns-in-Ok g c = simp (← c.read_command.ensures, c.in-Ok.is)
