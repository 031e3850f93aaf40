-- What the contract of each call says, as a row: the inputs, and the answer that the code gives to them.
use Rattle.std.specs.Prelude.{Err, Ok, cond, ℕ, Bool, true, false, List, [], replicate}
use Rattle.avl.specs.declared.DataResult.{DataResult}
use Rattle.datagram.specs.declared.DatagramResult.{DatagramResult}
use Rattle.element.specs.declared.RecordFields.{RecordFields}
use Prim.Native.String.{String}
use Rattle.wire.specs.Limits.{limits_of}
use Rattle.wire.specs.Answers.{Answer}
use Rattle.wire.specs.Buffers.{writing, leaving}
use Rattle.packet.specs.DataPackets.{answer_packet, tcp_acknowledgement}
use Rattle.datagram.specs.Datagrams.{answer_datagram, udp_acknowledgement}
use Rattle.login.specs.Login.{read_login, login_answer}
use Rattle.command.specs.declared.CommandFields.{CommandFields}
use Rattle.command.specs.Commands.{read_command, answer_command, text_view, text_offset}
use Rattle.command.specs.Writing.{command_bytes}
use Rattle.tlv.specs.PacketOf.{form_of_packet, form_of_datagram, packet_of_form}
use Rattle.element.specs.declared.Value.{Value}
use Rattle.lookup.specs.Lookups.{Source, Found, LastKnown, tcp_source, udp_source, record_by_number, value_by_number, value_by_id, passed_by_id, last_known, passed_by_last, view, view_offset, known_place}
use Rattle.lookup.specs.Answers.{answer_value, answer_known, known_view}
use Rattle.lookup.specs.declared.Known.{Known}
use Rattle.contents.specs.Contents.{contents_of_packet, contents_of_datagram}
use Rattle.line.specs.RecordLines.{line_of_packet, line_of_datagram, lines_of_packet, lines_of_datagram}
use Rattle.line.specs.LineReader.{wrong_at}
use Rattle.line.specs.LineElements.{Standing, element_of, element_at}
use Rattle.scan.specs.declared.LineFields.{LineFields}
use Rattle.scan.specs.declared.LineElement.{LineElement}
use Rattle.scan.specs.Answers.{answer_line, answer_element, leaving_element}
use Rattle.stream.specs.Stream.{Item, State, waiting, for_login, Streamed, stream}
use Rattle.connection.specs.declared.Connection.{Connection}
use Rattle.connection.specs.declared.Started.{Started}
use Rattle.connection.specs.declared.Fed.{Fed}
use Rattle.connection.specs.declared.Lent.{Lent}
use Rattle.connection.specs.State.{gathered, started, wanted}
use Rattle.connection.specs.Feeding.{Outcome, fed, fed_into, packet_in, fed_as, lent_as}
use Rattle.claims.specs.Rows.{Row, row}

-- ---- readers

abbrev pub read-packet : String → ℕ → List ℕ → Answer DataResult → Row
read-packet label family p r = row label (answer_packet (limits_of family) p) r

abbrev pub read-datagram : String → ℕ → List ℕ → Answer DatagramResult → Row
read-datagram label family p r = row label (answer_datagram (limits_of family) p) r

abbrev pub read-login : String → List ℕ → Answer ℕ → Row
read-login label p r = row label (read_login p) r

-- a text begins where the answer says, an empty one of a refusal with the input
abbrev pub text_at : Answer CommandFields → ℕ
text_at (Ok f) = f.offset
text_at (Err r) = 0

-- with command_text, and where it begins
abbrev pub read-command : String → ℕ → List ℕ → Answer CommandFields → List ℕ → Row
read-command label family p r text =
    row {A = Answer CommandFields × List ℕ × ℕ} label
    (answer_command (limits_of family) p, text_view (read_command (limits_of family) p), text_offset (answer_command (limits_of family) p))
    (r, text, text_at r)

-- ---- look-ups, each value with its view and where that begins

abbrev pub record-in-packet : String → ℕ → List ℕ → ℕ → Answer RecordFields → Row
record-in-packet label family p n r = row label (record_by_number (tcp_source (limits_of family) p) n) r

abbrev pub record-in-datagram : String → ℕ → List ℕ → ℕ → Answer RecordFields → Row
record-in-datagram label family p n r = row label (record_by_number (udp_source (limits_of family) p) n) r

abbrev pub value_at : Answer Value → ℕ
value_at (Ok v) = v.offset
value_at (Err r) = 0

abbrev pub looked-up : String → Answer Found → Answer Value → List ℕ → Row
looked-up label found r bytes = row {A = Answer Value × List ℕ × ℕ} label (answer_value found, view found, view_offset found) (r, bytes, value_at r)

abbrev pub value-in-packet : String → ℕ → List ℕ → ℕ → ℕ → Answer Value → List ℕ → Row
value-in-packet label family p n k = looked-up label (value_by_number (tcp_source (limits_of family) p) n k)

abbrev pub value-in-datagram : String → ℕ → List ℕ → ℕ → ℕ → Answer Value → List ℕ → Row
value-in-datagram label family p n k = looked-up label (value_by_number (udp_source (limits_of family) p) n k)

-- by ID: the answer, the number of elements passed, and the view
abbrev pub looked-for : String → Answer Source → ℕ → ℕ → Answer Value → ℕ → List ℕ → Row
looked-for label source n id r passed bytes =
    row {A = Answer Value × ℕ × List ℕ × ℕ} label
    (answer_value (value_by_id source n id), passed_by_id source n id, view (value_by_id source n id), view_offset (value_by_id source n id))
    (r, passed, bytes, value_at r)

abbrev pub id-in-packet : String → ℕ → List ℕ → ℕ → ℕ → Answer Value → ℕ → List ℕ → Row
id-in-packet label family p = looked-for label (tcp_source (limits_of family) p)

abbrev pub id-in-datagram : String → ℕ → List ℕ → ℕ → ℕ → Answer Value → ℕ → List ℕ → Row
id-in-datagram label family p = looked-for label (udp_source (limits_of family) p)

-- in the newer packet, which stands in block 1 here, or in the older, which stands in block 2
abbrev pub known_at : Answer Known → ℕ × ℕ
known_at (Ok k) = (cond k.older 2 1, k.value.offset)
known_at (Err r) = (1, 0)

abbrev pub known : String → Answer LastKnown → ℕ → Answer Known → ℕ → List ℕ → Row
known label k n r passed bytes =
    row {A = Answer Known × ℕ × List ℕ × (ℕ × ℕ)} label (answer_known k, n, known_view k, known_place k (1, 0) (2, 0)) (r, passed, bytes, known_at r)

abbrev pub last-known : String → ℕ → List ℕ → List ℕ → ℕ → Answer Known → ℕ → List ℕ → Row
last-known label family newer older id =
    known label (last_known id (tcp_source (limits_of family) newer) (tcp_source (limits_of family) older))
    (passed_by_last id (tcp_source (limits_of family) newer) (tcp_source (limits_of family) older))

-- ---- writers: the lent buffer, the answer, and the buffer afterwards

abbrev pub written : String → Answer (List ℕ) → List ℕ → Answer ℕ → List ℕ → Row
written label result out r after = row {A = Answer ℕ × List ℕ} label (writing result out, leaving result out) (r, after)

abbrev pub acknowledge-packet : String → ℕ → List ℕ → List ℕ → Answer ℕ → List ℕ → Row
acknowledge-packet label family p = written label (tcp_acknowledgement (limits_of family) p)

abbrev pub acknowledge-datagram : String → ℕ → List ℕ → List ℕ → Answer ℕ → List ℕ → Row
acknowledge-datagram label family p = written label (udp_acknowledgement (limits_of family) p)

abbrev pub answer-login : String → List ℕ → Bool → List ℕ → Answer ℕ → List ℕ → Row
answer-login label p known = written label (Ok (login_answer known p))

abbrev pub write-command : String → ℕ → ℕ → ℕ → List ℕ → ℕ → List ℕ → List ℕ → Answer ℕ → List ℕ → Row
write-command label family codec type imei time text = written label (command_bytes (limits_of family) codec type imei time text)

abbrev pub form-of-packet : String → ℕ → List ℕ → List ℕ → Answer ℕ → List ℕ → Row
form-of-packet label family p = written label (form_of_packet (limits_of family) p)

abbrev pub form-of-datagram : String → ℕ → List ℕ → List ℕ → Answer ℕ → List ℕ → Row
form-of-datagram label family p = written label (form_of_datagram (limits_of family) p)

abbrev pub packet-of-form : String → ℕ → List ℕ → List ℕ → Answer ℕ → List ℕ → Row
packet-of-form label family f = written label (packet_of_form (limits_of family) f)

-- a buffer of words
abbrev pub contents-of-packet : String → ℕ → List ℕ → List ℕ → Answer ℕ → List ℕ → Row
contents-of-packet label family p = written label (contents_of_packet (limits_of family) p)

abbrev pub contents-of-datagram : String → ℕ → List ℕ → List ℕ → Answer ℕ → List ℕ → Row
contents-of-datagram label family p = written label (contents_of_datagram (limits_of family) p)

-- ---- lines for the billing desk

abbrev pub line-of-packet : String → ℕ → List ℕ → ℕ → List ℕ → Answer ℕ → List ℕ → Row
line-of-packet label family p n = written label (line_of_packet (limits_of family) p n)

abbrev pub line-of-datagram : String → ℕ → List ℕ → ℕ → List ℕ → Answer ℕ → List ℕ → Row
line-of-datagram label family p n = written label (line_of_datagram (limits_of family) p n)

abbrev pub lines-of-packet : String → ℕ → List ℕ → List ℕ → Answer ℕ → List ℕ → Row
lines-of-packet label family p = written label (lines_of_packet (limits_of family) p)

abbrev pub lines-of-datagram : String → ℕ → List ℕ → List ℕ → Answer ℕ → List ℕ → Row
lines-of-datagram label family p = written label (lines_of_datagram (limits_of family) p)

-- with the byte at which the line is wrong
abbrev pub read-line : String → List ℕ → Answer LineFields → ℕ → Row
read-line label s r wrong = row {A = Answer LineFields × ℕ} label (answer_line s, wrong_at s) (r, wrong)

-- the lent buffer, the answer, and the buffer afterwards
abbrev pub element : String → Answer Standing → List ℕ → Answer LineElement → List ℕ → Row
element label found out r after = row {A = Answer LineElement × List ℕ} label (answer_element found out, leaving_element found out) (r, after)

abbrev pub element-in-line : String → List ℕ → ℕ → List ℕ → Answer LineElement → List ℕ → Row
element-in-line label s k = element label (element_of s k)

abbrev pub element-at : String → List ℕ → ℕ → List ℕ → Answer LineElement → List ℕ → Row
element-at label s at = element label (element_at s at)

-- ---- a connection: how it starts; its state, the bytes, and what a feed gives

abbrev pub start : String → ℕ → Started → Row
start label family r = row label (started 1280 family) r

abbrev pub reset : String → Connection → Connection → Row
reset label c r = row label (started 1280 c.family).state r

abbrev pub feed : String → Connection → List ℕ → Fed → Row
feed label c s r = row label (fed_as 1280 c.family (fed (limits_of c.family) 1280 (gathered c) s)) r

-- the lent state, the bytes, the lent buffer; the answer, then the bytes held and the buffer afterwards
abbrev pub lent : String → Outcome → List ℕ → Lent → List ℕ → List ℕ → Row
lent label o out r held after = row {A = Lent × List ℕ × List ℕ} label (lent_as o, o.state.held, leaving (Ok (packet_in o.told)) out) (r, held, after)

abbrev pub feed-lent : String → Connection → List ℕ → List ℕ → Lent → List ℕ → List ℕ → Row
feed-lent label c s out = lent label (fed_into (limits_of c.family) 1280 (gathered c) s out) out

-- both calls, where there is no packet: a lent buffer of 1,280 bytes stays as it is
abbrev pub either : String → ℕ → Outcome → Outcome → List ℕ → Fed → Row
either label family value o out r =
    row {A = Fed × Lent × List ℕ × List ℕ} label
    (fed_as 1280 family value, lent_as o, o.state.held, leaving (Ok (packet_in o.told)) out)
    (r, record { phase = r.state.phase; fill = r.state.fill; used = r.used; item = r.item }, r.state.held, out)

abbrev pub feed-either : String → Connection → List ℕ → Fed → Row
feed-either label c s = either label c.family (fed (limits_of c.family) 1280 (gathered c) s) (fed_into (limits_of c.family) 1280 (gathered c) s (replicate 1280 7)) (replicate 1280 7)

abbrev pub want : String → Connection → ℕ → Row
want label c n = row label (wanted (limits_of c.family) 1280 (gathered c)) n

-- the items of a whole stream, and the state behind it
abbrev pub streamed : String → ℕ → List ℕ → List Item → State → Row
streamed label family s items state = row {A = Streamed} label (stream (limits_of family) s (waiting for_login [])) (record { items = items; state = state })
