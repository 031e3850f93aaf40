use Rattle.report.specs.Shown.{contents_here}
use Rattle.report.proofs.records.contents_at.Goals as goal

pub returns-then-udp : goal.returns-then-udp
unfolding contents_here
returns-then-udp c = record { answer = simp c.if-udp.true c.contents_of_datagram.ensures.answer; buffer = simp c.if-udp.true c.contents_of_datagram.ensures.buffer }

pub returns-else-udp : goal.returns-else-udp
unfolding contents_here
returns-else-udp c = record { answer = simp c.if-udp.false c.contents_of_packet.ensures.answer; buffer = simp c.if-udp.false c.contents_of_packet.ensures.buffer }
