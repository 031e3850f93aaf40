-- The walk along a line's fields, field by field, and what its functions answer. `t` is the line without its LF.
use Rattle.std.specs.Prelude.{Bool, Option, Some, None, Result, Ok, Err, ℕ, ◌+◌, ◌^◌, ◌-◌, false, List, [], length, drop, leb, ℤ}
use Rattle.wire.specs.Numbers.{pick}
use Rattle.wire.specs.Reading.{Read, got, bad, and_then}
use Rattle.wire.specs.Answers.{Answer, on_accepted}
use Rattle.line.specs.Pieces.{pieces}
use Rattle.line.specs.Lines.{Printed, Line}
use Rattle.line.specs.LineReader.{read_decimal, read_degrees, read_printed, is_tag, next_field, read_elements}
use Rattle.line.specs.LineElements.{Standing}
use Rattle.scan.specs.Fields.{field_from, field_end}
use Rattle.scan.specs.declared.LineFields.{LineFields}

-- the fields from `at` on; none behind the end
unfoldable pub pieces_from : List ℕ → ℕ → List (List ℕ)
pieces_from t at = pick (leb at (length t)) (pieces (drop at t)) []

-- ---- the steps of `read_fields`

abbrev pub elements_on : ℕ → ℤ → ℤ → ℕ → ℕ → List (List ℕ) → Read Line
elements_on timestamp longitude latitude speed at ps =
    and_then (read_elements false at ps)
    (λ es n. got (record { timestamp = timestamp; longitude = longitude; latitude = latitude; speed = speed; elements = es }) n)

abbrev pub speed_on : ℕ → ℤ → ℤ → ℕ → List (List ℕ) → Read Line
speed_on timestamp longitude latitude at ps = next_field (read_decimal (2 ^ 16 - 1)) at ps (elements_on timestamp longitude latitude)

abbrev pub latitude_on : ℕ → ℤ → ℕ → List (List ℕ) → Read Line
latitude_on timestamp longitude at ps = next_field read_degrees at ps (speed_on timestamp longitude)

abbrev pub longitude_on : ℕ → ℕ → List (List ℕ) → Read Line
longitude_on timestamp at ps = next_field read_degrees at ps (latitude_on timestamp)

-- ---- what the functions answer

-- an element, behind whose field the next starts at `next`
unfoldable pub passed_as : ℕ → Answer Printed → Option (ℕ × Bool)
passed_as next (Ok e) = Some (next, is_tag e)
passed_as next (Err r) = None

-- the elements: how many, or where it is wrong
unfoldable pub rest_as : Read (List Printed) → Result ℕ ℕ
rest_as (got es n) = Ok (length es)
rest_as (bad x) = Err x.place

-- the line's fields, and where the field of its first element starts
unfoldable pub line_result : ℕ → Line → LineFields
line_result start l =
    record {
      timestamp = l.timestamp;
      longitude = l.longitude;
      latitude = l.latitude;
      speed = l.speed;
      elements = length l.elements;
      start = start;
    }

unfoldable pub judged_as : ℕ → Read Line → Result LineFields ℕ
judged_as start (got l n) = Ok (line_result start l)
judged_as start (bad x) = Err x.place

-- the element whose field starts at `at`
abbrev pub standing : List ℕ → ℕ → Answer Standing
standing t at = on_accepted (read_printed false (field_from t at)) (λ e. Ok (record { content = e; next = field_end t at + 1 }))
