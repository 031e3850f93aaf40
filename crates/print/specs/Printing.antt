-- What is printed along a record: its leading fields, its elements, the end of its line.
use Rattle.std.specs.Prelude.{Ok, ℕ, ◌^◌, ◌<◌, ◌≡◌, List, ◌∷◌, ◌++◌, length}
use Rattle.wire.specs.Answers.{Answer}
use Rattle.lookup.specs.declared.Part.{Part}
use Rattle.wire.specs.Numbers.{signed}
use Rattle.wire.specs.Sequences.{joined}
use Rattle.wire.specs.Reading.{got}
use Rattle.wire.specs.Buffers.{writing, leaving}
use Rattle.avl.specs.declared.Widths.{Widths}
use Rattle.avl.specs.Codecs.{widths_of}
use Rattle.avl.specs.Records.{Fixed, AvlRecord}
use Rattle.avl.specs.RecordReader.{plain_record}
use Rattle.avl.specs.DataField.{AvlData}
use Rattle.element.specs.Elements.{Located}
use Rattle.lookup.specs.Answers.{OfPart}
use Rattle.text.specs.Decimal.{decimal}
use Rattle.line.specs.Lines.{degrees, printed_text, line_bytes}
use Rattle.line.specs.RecordLines.{printed_of, record_line, line_of}

-- an element, behind a comma
abbrev pub printed : Located → List ℕ
printed e = 44 ∷ printed_text (printed_of e)

-- a coordinate as it stands in four bytes, behind a comma
abbrev pub coordinate : ℕ → List ℕ
coordinate n = 44 ∷ degrees (signed 4 n)

-- timestamp, longitude, latitude and speed
unfoldable pub leading : ℕ → ℕ → ℕ → ℕ → List ℕ
leading timestamp longitude latitude speed = decimal timestamp ++ (coordinate longitude ++ (coordinate latitude ++ (44 ∷ decimal speed)))

abbrev pub head_text : Fixed → List ℕ
head_text f = leading f.timestamp f.longitude f.latitude f.speed

-- the line of a record, wherever it stands
abbrev pub line_text : Widths → ℕ → AvlRecord → List ℕ
line_text w at r = line_bytes (record_line w r)

-- the lines of a data field
abbrev pub lines_text : AvlData → List ℕ
lines_text a = joined (λ r. line_bytes (record_line (widths_of a.codec) r)) a.records

-- the line of the record that the bytes `s` begin with is written
pub record WritesLine (w : Widths) (s before after : List ℕ) (r : Answer ℕ) : Type 0 where
  pub answer : (x : AvlRecord) (n : ℕ) → plain_record w s 0 ≡ got x n → r ≡ writing (Ok (line_bytes (record_line w x))) before
  pub buffer : (x : AvlRecord) (n : ℕ) → plain_record w s 0 ≡ got x n → after ≡ leaving (Ok (line_bytes (record_line w x))) before

-- the input of a record is short
abbrev pub ShortPart : List ℕ → Answer Part → Type 0
ShortPart p q = (codec start end elements : ℕ) → q ≡ Ok (record { codec = codec; start = start; elements = elements; end = end }) → length p < 2 ^ 32

-- the line of the record that the part is, or the part's refusal
abbrev pub LineIn : List ℕ → Answer Part → List ℕ → List ℕ → Answer ℕ → Type 0
LineIn p q before after r = OfPart p q line_of (λ line. (r ≡ writing line before) × (after ≡ leaving line before))
