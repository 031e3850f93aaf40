-- The reader's refusal is the one said; an accepted input has none.
use Rattle.report.specs.Shown.{refusal_number, packet_refusal}
use Rattle.report.proofs.show_packet.Goals as goal

pub returns-in-Err : goal.returns-in-Err
unfolding packet_refusal refusal_number
returns-in-Err g c = simp (← c.read_packet.ensures, c.in-Err.is) c.refuse.ensures

pub returns-in-Ok : goal.returns-in-Ok
unfolding packet_refusal refusal_number
returns-in-Ok g c = simp (← c.read_packet.ensures, c.in-Ok.is)
