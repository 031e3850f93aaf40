-- The line of a record, and the lines of a packet.
use Rattle.std.specs.Prelude.{Ok, ℕ, List, [], ◌∷◌, length, eqb}
use Rattle.wire.specs.declared.Limits.{Limits}
use Rattle.wire.specs.Numbers.{number_at, signed, pick}
use Rattle.wire.specs.Sequences.{joined}
use Rattle.wire.specs.Answers.{Answer, on_accepted}
use Rattle.avl.specs.declared.Widths.{Widths}
use Rattle.avl.specs.Codecs.{widths_of}
use Rattle.avl.specs.Records.{AvlRecord}
use Rattle.element.specs.Elements.{Located, elements}
use Rattle.lookup.specs.Places.{Placed}
use Rattle.lookup.specs.Lookups.{Source, tcp_source, udp_source, of_record}
use Rattle.line.specs.Lines.{Printed, number, tag, Line, line_bytes}

-- a fixed value by the unsigned number that its bytes are, a variable one by its bytes
unfoldable pub printed_of : Located → Printed
printed_of e = pick (eqb e.kind 9) (tag e.id e.value) (number e.id (number_at e.value 0 (length e.value)))

unfoldable pub printed_all : List Located → List Printed
printed_all [] = []
printed_all (e ∷ l) = printed_of e ∷ printed_all l

unfoldable pub record_line : Widths → AvlRecord → Line
record_line w r =
    record {
      timestamp = r.fixed.timestamp;
      longitude = signed 4 r.fixed.longitude;
      latitude = signed 4 r.fixed.latitude;
      speed = r.fixed.speed;
      elements = printed_all (elements w r);
    }

-- ---- by record number; the packet's refusals, and 16

abbrev pub line_of : ℕ → Placed → Answer (List ℕ)
line_of codec r = Ok (line_bytes (record_line (widths_of codec) r.content))

unfoldable pub line_of_packet : Limits → List ℕ → ℕ → Answer (List ℕ)
line_of_packet limits p n = of_record line_of (tcp_source limits p) n

unfoldable pub line_of_datagram : Limits → List ℕ → ℕ → Answer (List ℕ)
line_of_datagram limits p n = of_record line_of (udp_source limits p) n

-- ---- all records, one line behind another

abbrev pub lines_of : Source → List ℕ
lines_of x = joined (λ r. line_bytes (record_line (widths_of x.content.codec) r)) x.content.records

unfoldable pub lines_of_packet : Limits → List ℕ → Answer (List ℕ)
lines_of_packet limits p = on_accepted (tcp_source limits p) (λ x. Ok (lines_of x))

unfoldable pub lines_of_datagram : Limits → List ℕ → Answer (List ℕ)
lines_of_datagram limits p = on_accepted (udp_source limits p) (λ x. Ok (lines_of x))

-- ---- the printed fields, by record number

abbrev pub fields_of_record : ℕ → Placed → Answer Line
fields_of_record codec r = Ok (record_line (widths_of codec) r.content)

-- the fields of a record's line; the packet's refusals, and 16
unfoldable pub fields_of_packet : Limits → List ℕ → ℕ → Answer Line
fields_of_packet limits p n = of_record fields_of_record (tcp_source limits p) n

unfoldable pub fields_of_datagram : Limits → List ℕ → ℕ → Answer Line
fields_of_datagram limits p n = of_record fields_of_record (udp_source limits p) n
