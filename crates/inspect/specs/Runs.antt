-- The refusal that the program says of an input: its number, 0 where there is none.
use Rattle.std.specs.Prelude.{ℕ, List}
use Rattle.wire.specs.Numbers.{pick}
use Rattle.report.specs.Shown.{packet_refusal, datagram_refusal, login_refusal, command_refusal, connection_refusal, lines_refusal, packet_of_form_refusal, form_of_packet_refusal, form_of_datagram_refusal, lines_of_packet_refusal, lines_of_datagram_refusal}
use Rattle.inspect.specs.FirstBytes.{is_tcp}
use Rattle.inspect.specs.declared.Task.{Task}
use Rattle.inspect.specs.declared.Task.TheVariants.{Auto, Packet, Datagram, Login, Command, Form, Connection, Line, FormOf, PacketOf, Lines, Write, Help}

-- by a task on an input of the kind that it asks for, from a unit of the family; a login and billing lines are the same in all
unfoldable pub refusal_by : ℕ → Task → List ℕ → ℕ
refusal_by family Auto p = 0
refusal_by family Packet p = packet_refusal family p
refusal_by family Datagram p = datagram_refusal family p
refusal_by family Login p = login_refusal p
refusal_by family Command p = command_refusal family p
refusal_by family Form p = packet_of_form_refusal family p
refusal_by family Connection p = connection_refusal family p
refusal_by family Line p = lines_refusal p
refusal_by family FormOf p = pick (is_tcp p) (form_of_packet_refusal family p) (form_of_datagram_refusal family p)
refusal_by family PacketOf p = packet_of_form_refusal family p
refusal_by family Lines p = pick (is_tcp p) (lines_of_packet_refusal family p) (lines_of_datagram_refusal family p)
refusal_by family Write p = 0
refusal_by family Help p = 0
