-- A TCP data packet or a datagram.
use Rattle.inspect.specs.Runs.{refusal_by}
use Rattle.inspect.proofs.run_lines.Goals as goal

pub returns-then-is_tcp : goal.returns-then-is_tcp
unfolding refusal_by
returns-then-is_tcp g c = simp (← c.is_tcp.ensures, c.if-is_tcp.true) c.say_lines_of_packet.ensures

pub returns : goal.returns
unfolding refusal_by
returns g c = simp (← c.is_tcp.ensures, c.if-is_tcp.false) c.say_lines_of_datagram.ensures
