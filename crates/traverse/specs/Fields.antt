-- Writing what belongs to a data field into a lent buffer: `text` says what that is of its content.
use Rattle.std.specs.Prelude.{Ok, ℕ, ◌≤◌, ◌<◌, ◌^◌, ◌≡◌, List, length}
use Rattle.wire.specs.Answers.{Answer}
use Rattle.wire.specs.Buffers.{writing, leaving}
use Rattle.wire.specs.Reading.{got, repeat}
use Rattle.avl.specs.Codecs.{widths_of}
use Rattle.avl.specs.Records.{AvlRecord}
use Rattle.avl.specs.RecordReader.{plain_record}
use Rattle.avl.specs.DataField.{AvlData, read_data}

-- the text of a data field with this codec and these records
abbrev pub field_text : (AvlData → List ℕ) → ℕ → ℕ → List AvlRecord → List ℕ
field_text text codec at rs = text (record { codec = codec; records = rs })

-- the text of `count` records is written, which the bytes `s` begin with
pub record WritesRecords (codec count : ℕ) (text : AvlData → List ℕ) (s before after : List ℕ) (r : Answer ℕ) : Type 0 where
  pub answer : (rs : List AvlRecord) (n : ℕ) → repeat count (plain_record (widths_of codec)) s 0 ≡ got rs n → r ≡ writing (Ok (field_text text codec 0 rs)) before
  pub buffer : (rs : List AvlRecord) (n : ℕ) → repeat count (plain_record (widths_of codec)) s 0 ≡ got rs n → after ≡ leaving (Ok (field_text text codec 0 rs)) before

-- it has no more than `room` numbers
abbrev pub HasRoom : ℕ → ℕ → (AvlData → List ℕ) → List ℕ → ℕ → Type 0
HasRoom codec count text s room =
    (rs : List AvlRecord) (n : ℕ) → repeat count (plain_record (widths_of codec)) s 0 ≡ got rs n → length (field_text text codec 0 rs) ≤ room

-- a data field that is accepted within some limit; four bytes can tell its length
pub record Field (d : List ℕ) : Type 0 where
  pub long : 3 ≤ length d
  pub small : length d < 2 ^ 32
  pub longest : ℕ
  pub content : AvlData
  pub accepts : read_data longest d ≡ Ok content

-- its text is written, whatever the limit within which it is accepted
pub record Writes (text : AvlData → List ℕ) (d before after : List ℕ) (r : Answer ℕ) : Type 0 where
  pub answer : (longest : ℕ) (a : AvlData) → read_data longest d ≡ Ok a → r ≡ writing (Ok (text a)) before
  pub buffer : (longest : ℕ) (a : AvlData) → read_data longest d ≡ Ok a → after ≡ leaving (Ok (text a)) before

-- the text of an accepted data field has no more than `room` numbers
abbrev pub FieldRoom : (AvlData → List ℕ) → List ℕ → ℕ → Type 0
FieldRoom text d room = (longest : ℕ) (a : AvlData) → read_data longest d ≡ Ok a → length (text a) ≤ room
