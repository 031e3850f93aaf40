-- What a caller reads of a table of contents, record by record and value by value; and that it is what the look-ups give.
use Rattle.std.specs.Prelude.{Ok, ℕ, zero, suc, ◌+◌, ◌≤◌, ◌<◌, ◌≡◌, List, [], ◌∷◌, length, take, drop, get_or}
use Rattle.wire.specs.Answers.{Answer, on_accepted}
use Rattle.element.specs.declared.RecordFields.{RecordFields}
use Rattle.element.specs.declared.Value.{Value}
use Rattle.element.specs.Elements.{nth}
use Rattle.lookup.specs.Lookups.{Source, record_by_number, value_by_number}
use Rattle.lookup.specs.Answers.{part_of, answer_value}
use Rattle.lookup.specs.declared.Part.{Part}
use Rattle.contents.specs.Words.{bits, title_result, record_of, value_of}

pub record Row : Type 0 where
  pub start : ℕ
  pub size : ℕ
  pub fields : RecordFields
  pub values : List Value

unfoldable pub values_of : List ℕ → List Value
values_of [] = []
values_of (word ∷ t) = value_of word ∷ values_of t

-- the row of the record whose words these begin with
unfoldable pub row_of : List ℕ → Row
row_of t =
    record {
      start = bits (get_or t 3 0) 16 16;
      size = bits (get_or t 3 0) 32 16;
      fields = record_of t;
      values = values_of (take (record_of t).elements (drop 4 t));
    }

-- `n` records one behind another, each with its values behind it
unfoldable pub rows_from : ℕ → List ℕ → List Row
rows_from zero t = []
rows_from (suc n) t = row_of t ∷ rows_from n (drop (4 + (record_of t).elements) t)

unfoldable pub rows_of : List ℕ → List Row
rows_of t = rows_from (title_result t).count (drop 2 t)

-- how many words rows take
unfoldable pub rows_size : List Row → ℕ
rows_size [] = 0
rows_size (r ∷ rs) = 4 + length r.values + rows_size rs

-- from the word `at` on stand the words of `n` records, and their values lie within the input
abbrev pub RowsAhead : List ℕ → List ℕ → ℕ → ℕ → Type 0
RowsAhead p t at zero = Unit {0}
RowsAhead p t at (suc n) =
    (at + 4 + (record_of (drop at t)).elements ≤ length t)
    × ((k : ℕ) → k < (record_of (drop at t)).elements → (value_of (get_or t (at + 4 + k) 0)).offset + (value_of (get_or t (at + 4 + k) 0)).size ≤ length p)
    × RowsAhead p t (at + 4 + (record_of (drop at t)).elements) n

-- ---- the table lists what the look-ups give, and nothing else

abbrev pub place_of : ℕ → Row → Part
place_of codec r = record { codec = codec; start = r.start; end = r.start + r.size; elements = r.fields.elements }

pub record Lists (source : Answer Source) (t : List ℕ) : Type 0 where
  pub records : (n : ℕ) → record_by_number source n ≡ on_accepted (nth n (rows_of t)) (λ row. Ok row.fields)
  pub places : (n : ℕ) → part_of source n ≡ on_accepted (nth n (rows_of t)) (λ row. Ok (place_of (title_result t).codec row))
  pub values : (n k : ℕ) → answer_value (value_by_number source n k) ≡ on_accepted (nth n (rows_of t)) (λ row. nth k row.values)
  pub whole : length t ≡ 2 + rows_size (rows_of t)
