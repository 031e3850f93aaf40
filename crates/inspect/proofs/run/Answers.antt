-- Each task's function answers its refusal.
use Rattle.inspect.specs.Runs.{refusal_by}
use Rattle.inspect.proofs.run.Goals as goal

pub returns-in-Packet : goal.returns-in-Packet
unfolding refusal_by
returns-in-Packet g c = simp c.in-Packet.is c.show_packet.ensures

pub returns-in-Datagram : goal.returns-in-Datagram
unfolding refusal_by
returns-in-Datagram g c = simp c.in-Datagram.is c.show_datagram.ensures

pub returns-in-Login : goal.returns-in-Login
unfolding refusal_by
returns-in-Login g c = simp c.in-Login.is c.show_login.ensures

pub returns-in-Command : goal.returns-in-Command
unfolding refusal_by
returns-in-Command g c = simp c.in-Command.is c.show_command.ensures

pub returns-in-Form : goal.returns-in-Form
unfolding refusal_by
returns-in-Form g c = simp c.in-Form.is c.show_form.ensures

pub returns-in-Connection : goal.returns-in-Connection
unfolding refusal_by
returns-in-Connection g c = simp c.in-Connection.is c.show_connection.ensures

pub returns-in-Line : goal.returns-in-Line
unfolding refusal_by
returns-in-Line g c = simp c.in-Line.is c.show_lines.ensures

pub returns-in-FormOf : goal.returns-in-FormOf
returns-in-FormOf g c = simp c.in-FormOf.is c.run_form_of.ensures

pub returns-in-PacketOf : goal.returns-in-PacketOf
unfolding refusal_by
returns-in-PacketOf g c = simp c.in-PacketOf.is c.say_packet_of.ensures

pub returns-in-Lines : goal.returns-in-Lines
returns-in-Lines g c = simp c.in-Lines.is c.run_lines.ensures

pub returns-in-Auto : goal.returns-in-Auto
unfolding refusal_by
returns-in-Auto g c = simp c.in-Auto.is

pub returns-in-Write : goal.returns-in-Write
unfolding refusal_by
returns-in-Write g c = simp c.in-Write.is

pub returns-in-Help : goal.returns-in-Help
unfolding refusal_by
returns-in-Help g c = simp c.in-Help.is
