-- The reader's refusal is the one said; an accepted input has none.
use Rattle.report.specs.Shown.{refusal_number, written_refusal, packet_of_form_refusal}
use Rattle.report.proofs.show_form.Goals as goal

pub returns-in-Err : goal.returns-in-Err
unfolding packet_of_form_refusal written_refusal refusal_number
returns-in-Err g c = simp (← c.packet_of_form.ensures.answer, c.in-Err.is) c.refuse.ensures

pub returns-in-Some : goal.returns-in-Some
unfolding packet_of_form_refusal written_refusal refusal_number
returns-in-Some g c = simp (← c.packet_of_form.ensures.answer, c.in-Ok.is)

pub returns-in_default : goal.returns-in_default
unfolding packet_of_form_refusal written_refusal refusal_number
returns-in_default g c = simp (← c.packet_of_form.ensures.answer, c.in-Ok.is)
