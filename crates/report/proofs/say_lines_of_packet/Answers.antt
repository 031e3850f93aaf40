-- The writer's refusal is the one said.
use mathlib.Core.Path.{ap, ◌∙◌}
use Rattle.report.specs.Shown.{refusal_number, written_refusal, lines_of_packet_refusal}
use Rattle.report.proofs.say_lines_of_packet.Goals as goal

pub returns : goal.returns
unfolding lines_of_packet_refusal written_refusal
returns g c = c.say_written.ensures ∙ ap refusal_number c.lines_of_packet-answer.ensures.answer
