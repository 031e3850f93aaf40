-- The writer's refusal is the one said.
use mathlib.Core.Path.{ap, ◌∙◌}
use Rattle.report.specs.Shown.{refusal_number, written_refusal, packet_of_form_refusal}
use Rattle.report.proofs.say_packet_of.Goals as goal

pub returns : goal.returns
unfolding packet_of_form_refusal written_refusal
returns g c = c.say_written.ensures ∙ ap refusal_number c.packet_of_form-answer.ensures.answer
