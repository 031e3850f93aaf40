-- What holds of the lines for the billing desk (request 4), as one claim.
use Rattle.std.specs.Prelude.{Ok, ℕ, suc, ◌+◌, ◌-◌, ◌*◌, ◌≤◌, ◌≡◌, List, length, get_or}
use Rattle.wire.specs.declared.Limits.{Limits}
use Rattle.wire.specs.Numbers.{Bytes}
use Rattle.wire.specs.Answers.{on_accepted}
use Rattle.avl.specs.Codecs.{widths_of}
use Rattle.avl.specs.Records.{AvlRecord, RecordRules}
use Rattle.element.specs.Elements.{elements, nth}
use Rattle.line.specs.Pieces.{count}
use Rattle.line.specs.Lines.{Printed, Line, LineRules, line_bytes}
use Rattle.line.specs.LineReader.{read_line}
use Rattle.line.specs.LineElements.{field_start, field_at, element_of, element_at}
use Rattle.line.specs.RecordLines.{record_line, line_of_packet, line_of_datagram, lines_of_packet, lines_of_datagram, fields_of_packet, fields_of_datagram}
use Rattle.line.specs.SameFields.{kinds_of, SameFields}

-- three commas, and one more for each element; one LF, which is the last byte
pub record Undivided (l : Line) : Type 0 where
  pub commas : count 44 (line_bytes l) ≡ 3 + length l.elements
  pub ends : count 10 (line_bytes l) ≡ 1
  pub last : get_or (line_bytes l) (length (line_bytes l) - 1) 0 ≡ 10

-- no line of a packet, nor all of them, has more than four times its bytes
pub record Roomy (limits : Limits) (p t : List ℕ) : Type 0 where
  pub of_packet : (n : ℕ) → line_of_packet limits p n ≡ Ok t → length t ≤ 4 * length p
  pub of_datagram : (n : ℕ) → line_of_datagram limits p n ≡ Ok t → length t ≤ 4 * length p
  pub all_of_packet : lines_of_packet limits p ≡ Ok t → length t ≤ 4 * length p
  pub all_of_datagram : lines_of_datagram limits p ≡ Ok t → length t ≤ 4 * length p

pub record LinesKept : Type 0 where
  -- exactly the bytes of lines that keep the rules are read, and as that line
  pub exact : (s : List ℕ) (l : Line) → (read_line s ≡ Ok l → LineRules l × (s ≡ line_bytes l)) × (LineRules l × (s ≡ line_bytes l) → read_line s ≡ Ok l)
  -- the line of record n, read again, gives the printed fields of record n: from packet to line to fields
  pub packet_again : (limits : Limits) (p : List ℕ) (n : ℕ) → Bytes p → on_accepted (line_of_packet limits p n) read_line ≡ fields_of_packet limits p n
  pub datagram_again : (limits : Limits) (p : List ℕ) (n : ℕ) → Bytes p → on_accepted (line_of_datagram limits p n) read_line ≡ fields_of_datagram limits p n
  -- a record's line keeps the rules, so no tag adds a field or a line
  pub keeps : (longest codec : ℕ) (r : AvlRecord) → RecordRules longest (widths_of codec) r → LineRules (record_line (widths_of codec) r)
  pub undivided : (l : Line) → LineRules l → Undivided l
  -- records of any codecs whose elements have the same kinds: equal lines mean equal fields, each element's ID and value among them
  pub same : (longest most codec other : ℕ) (r q : AvlRecord) → RecordRules longest (widths_of codec) r → RecordRules most (widths_of other) q
      → kinds_of (elements (widths_of codec) r) ≡ kinds_of (elements (widths_of other) q)
      → line_bytes (record_line (widths_of codec) r) ≡ line_bytes (record_line (widths_of other) q) → SameFields (widths_of codec) (widths_of other) r q
  -- going along a line, field by field, gives its elements by their numbers
  pub along : (s : List ℕ) (l : Line) → read_line s ≡ Ok l → (k : ℕ) (e : Printed) → nth k l.elements ≡ Ok e
      → (element_of s k ≡ element_at s (field_start s (4 + k))) × (field_start s (5 + k) ≡ field_start s (4 + k) + suc (length (field_at s (field_start s (4 + k)))))
  pub room : (limits : Limits) (p t : List ℕ) → Bytes p → Roomy limits p t
