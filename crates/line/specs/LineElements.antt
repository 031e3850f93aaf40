-- The elements of a line one by one: by number, and by the byte at which a field starts.
use Rattle.std.specs.Prelude.{Ok, ℕ, zero, suc, ◌+◌, false, List, [], ◌∷◌, length, drop}
use Rattle.wire.specs.Answers.{Answer, on_accepted}
use Rattle.element.specs.Elements.{nth}
use Rattle.line.specs.Pieces.{before, pieces}
use Rattle.line.specs.Lines.{Printed}
use Rattle.line.specs.LineReader.{read_printed, body, read_line}

-- ---- where fields start

-- the n-th of pieces, the first of which starts at `at`
unfoldable pub start_from : ℕ → ℕ → List (List ℕ) → ℕ
start_from zero at ps = at
start_from (suc n) at [] = at
start_from (suc n) at (p ∷ ps) = start_from n (at + suc (length p)) ps

-- the n-th field of a line, from 0
abbrev pub field_start : List ℕ → ℕ → ℕ
field_start s n = start_from n 0 (pieces (body s))

-- the field that starts at a byte: up to the next comma or the end
abbrev pub field_at : List ℕ → ℕ → List ℕ
field_at s at = before 44 (drop at (body s))

-- ---- elements, each with the byte at which the next field starts

pub record Standing : Type 0 where
  pub content : Printed
  pub next : ℕ

-- by number, from 0: the line's refusal, 16
unfoldable pub element_of : List ℕ → ℕ → Answer Standing
element_of s k =
    on_accepted (read_line s)
    (λ l. on_accepted (nth k l.elements)
    (λ e. Ok (record { content = e; next = field_start s (5 + k) })))

-- by the byte at which its field starts, the rest of the line unread
unfoldable pub element_at : List ℕ → ℕ → Answer Standing
element_at s at = on_accepted (read_printed false (field_at s at)) (λ e. Ok (record { content = e; next = at + suc (length (field_at s at)) }))
