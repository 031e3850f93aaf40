-- The writer's refusal is the one said.
use mathlib.Core.Path.{ap, ◌∙◌}
use Rattle.report.specs.Shown.{refusal_number, written_refusal, write_refusal}
use Rattle.report.proofs.say_command.Goals as goal

pub returns : goal.returns
unfolding write_refusal written_refusal
returns g c = c.say_written.ensures ∙ ap refusal_number c.write_command-answer.ensures.result_value
