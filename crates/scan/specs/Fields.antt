-- What the functions that read a field answer: of the text from `at` on, up to the next comma or to the end.
use Rattle.std.specs.Prelude.{Err, Ok, Option, Some, None, ℕ, ◌+◌, ◌-◌, ◌*◌, ◌^◌, Bool, true, false, List, [], ◌∷◌, length, drop, get_or, ℤ, eqb, leb, ltb}
use Rattle.wire.specs.Numbers.{pick}
use Rattle.wire.specs.Answers.{Answer, check}
use Rattle.text.specs.Hex.{among}
use Rattle.line.specs.Pieces.{before}
use Rattle.line.specs.Lines.{Printed, number, tag}
use Rattle.line.specs.LineReader.{said, all_digits}
use Rattle.scan.specs.declared.Item.{Item}

-- the field that starts at `at`
abbrev pub field_from : List ℕ → ℕ → List ℕ
field_from t at = before 44 (drop at t)

-- where it ends
abbrev pub field_end : List ℕ → ℕ → ℕ
field_end t at = at + length (field_from t at)

-- the byte `b` stands at `at`
unfoldable pub stands_at : List ℕ → ℕ → ℕ → Bool
stands_at t at b = pick (ltb at (length t)) (eqb (get_or t at 0) b) false

-- a field ends at `at`: at a comma, or with the text
unfoldable pub ends_at : List ℕ → ℕ → Bool
ends_at t at = pick (leb (length t) at) true (eqb (get_or t at 0) 44)

-- the digits that text begins with
unfoldable pub run : List ℕ → List ℕ
run [] = []
run (c ∷ s) = pick (among 48 57 c) (c ∷ run s) []

-- a number whose text ends at `end`
unfoldable pub number_as : ℕ → Answer ℕ → Option (ℕ × ℕ)
number_as end (Ok n) = Some (n, end)
number_as end (Err r) = None

-- the number of digits that start at `at`, if 64 bits hold it
unfoldable pub run_as : ℕ → List ℕ → Option (ℕ × ℕ)
run_as at ds = number_as (at + length ds) (check (leb (said ds) (2 ^ 64 - 1)) 20 (Ok (said ds)))

-- seven places behind so many whole degrees
unfoldable pub places_of : ℕ → List ℕ → Answer ℕ
places_of whole s = check (eqb (length s) 7) 20 (check (all_digits s) 20 (Ok (whole * 10 ^ 7 + said s)))

-- degrees whose text ends at `end`
unfoldable pub degrees_as : ℕ → Answer ℤ → Option (ℤ × ℕ)
degrees_as end (Ok z) = Some (z, end)
degrees_as end (Err r) = None

-- a number that was read, with its sign
unfoldable pub signed_as : (ℕ → Answer ℤ) → Option (ℕ × ℕ) → Option (ℤ × ℕ)
signed_as sign (Some (m, end)) = degrees_as end (sign m)
signed_as sign None = None

-- where the text of a tag starts, in the field of its element: behind the ID, the sign (61) and the quote
abbrev pub tag_start : List ℕ → ℕ → ℕ
tag_start t at = at + length (before 61 (field_from t at)) + 2

-- an element whose field ends at `end`, and the text of whose tag starts at `start`
unfoldable pub item_as : ℕ → ℕ → Answer Printed → Option Item
item_as start end (Ok (number id n)) = Some (Item.Number id n end)
item_as start end (Ok (tag id b)) = Some (Item.Tag id start (length b) end)
item_as start end (Err r) = None
