-- What the functions that say something answer: the number of the refusal that is said, 0 where the input is accepted.
use Rattle.std.specs.Prelude.{Err, Ok, ℕ, ◌*◌, Bool, List, [], ◌∷◌, replicate, eqb}
use Rattle.wire.specs.Numbers.{pick}
use Rattle.wire.specs.Limits.{largest_of_all, limits_of, is_known}
use Rattle.wire.specs.Answers.{Answer}
use Rattle.wire.specs.Buffers.{writing}
use Rattle.packet.specs.DataPackets.{read_packet, answer_packet, acknowledged}
use Rattle.datagram.specs.Datagrams.{read_datagram, payload_of, answer_datagram}
use Rattle.login.specs.Login.{read_login}
use Rattle.command.specs.Commands.{answer_command}
use Rattle.command.specs.Writing.{command_bytes}
use Rattle.tlv.specs.PacketOf.{form_of_packet, form_of_datagram, packet_of_form}
use Rattle.contents.specs.Contents.{contents_of_packet, contents_of_datagram}
use Rattle.line.specs.Pieces.{onto}
use Rattle.line.specs.LineReader.{read_line}
use Rattle.line.specs.RecordLines.{lines_of_packet, lines_of_datagram}
use Rattle.stream.specs.Stream.{for_login, Item, login, packet, refusing, waiting, stream}

unfoldable pub refusal_number : {A : Type 0} → Answer A → ℕ
refusal_number (Ok a) = 0
refusal_number (Err r) = r.number

-- ---- an input of each kind

unfoldable pub packet_refusal : ℕ → List ℕ → ℕ
packet_refusal family p = refusal_number (answer_packet (limits_of family) p)

unfoldable pub datagram_refusal : ℕ → List ℕ → ℕ
datagram_refusal family p = refusal_number (answer_datagram (limits_of family) p)

unfoldable pub login_refusal : List ℕ → ℕ
login_refusal p = refusal_number (read_login p)

unfoldable pub command_refusal : ℕ → List ℕ → ℕ
command_refusal family p = refusal_number (answer_command (limits_of family) p)

-- ---- a connection, from a fresh one of the family on

-- of the first item that is refused; a refusal closes, so none is behind it
unfoldable pub closing_refusal : List Item → ℕ
closing_refusal [] = 0
closing_refusal (login imei ∷ items) = closing_refusal items
closing_refusal (packet p ∷ items) = closing_refusal items
closing_refusal (refusing r ∷ items) = r.number

unfoldable pub feeds_refusal : ℕ → List ℕ → ℕ
feeds_refusal family p = closing_refusal (stream (limits_of family) p (waiting for_login [])).items

-- none of an unknown family is started
unfoldable pub connection_refusal : ℕ → List ℕ → ℕ
connection_refusal family p = pick (is_known (limits_of family).largest) (feeds_refusal family p) 21

-- ---- billing lines, read back

-- the lines of a text, each with its LF (10), which the last may lack
unfoldable pub text_lines : List ℕ → List (List ℕ)
text_lines [] = []
text_lines (c ∷ s) = pick (eqb c 10) ((c ∷ []) ∷ text_lines s) (onto c (text_lines s))

unfoldable pub line_refusal : List ℕ → ℕ
line_refusal s = refusal_number (read_line s)

-- the first of two refusals, where 0 is none
unfoldable pub earlier : ℕ → ℕ → ℕ
earlier a b = pick (eqb a 0) b a

unfoldable pub first_refusal : List (List ℕ) → ℕ
first_refusal [] = 0
first_refusal (line ∷ lines) = earlier (line_refusal line) (first_refusal lines)

-- of the first line that is refused
unfoldable pub lines_refusal : List ℕ → ℕ
lines_refusal s = first_refusal (text_lines s)

-- ---- what is written, into a buffer of `size` bytes: long enough in every family

unfoldable pub written_refusal : ℕ → Answer (List ℕ) → ℕ
written_refusal size result = refusal_number (writing result (replicate size 0))

unfoldable pub form_of_packet_refusal : ℕ → List ℕ → ℕ
form_of_packet_refusal family p = written_refusal (4 * largest_of_all) (form_of_packet (limits_of family) p)

unfoldable pub form_of_datagram_refusal : ℕ → List ℕ → ℕ
form_of_datagram_refusal family p = written_refusal (4 * largest_of_all) (form_of_datagram (limits_of family) p)

unfoldable pub lines_of_packet_refusal : ℕ → List ℕ → ℕ
lines_of_packet_refusal family p = written_refusal (4 * largest_of_all) (lines_of_packet (limits_of family) p)

unfoldable pub lines_of_datagram_refusal : ℕ → List ℕ → ℕ
lines_of_datagram_refusal family p = written_refusal (4 * largest_of_all) (lines_of_datagram (limits_of family) p)

unfoldable pub packet_of_form_refusal : ℕ → List ℕ → ℕ
packet_of_form_refusal family f = written_refusal largest_of_all (packet_of_form (limits_of family) f)

unfoldable pub write_refusal : ℕ → ℕ → ℕ → List ℕ → ℕ → List ℕ → ℕ
write_refusal family codec kind imei time text = written_refusal largest_of_all (command_bytes (limits_of family) codec kind imei time text)

-- ---- the records of a datagram or a TCP data packet

unfoldable pub contents_here : ℕ → Bool → List ℕ → Answer (List ℕ)
contents_here family udp p = pick udp (contents_of_datagram (limits_of family) p) (contents_of_packet (limits_of family) p)

-- how many records there are, and are said
unfoldable pub records_said : ℕ → Bool → List ℕ → ℕ
records_said family udp p = acknowledged (pick udp (payload_of (read_datagram (limits_of family) p)) (read_packet (limits_of family) p))
