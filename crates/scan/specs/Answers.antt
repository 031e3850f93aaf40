-- What the calls that read a line answer, and what they leave in the lent buffer.
use Rattle.std.specs.Prelude.{Ok, ℕ, true, false, List, [], length, leb}
use Rattle.wire.specs.Answers.{Answer, on_accepted, check}
use Rattle.wire.specs.Buffers.{leaving}
use Rattle.line.specs.Lines.{Printed, number, tag}
use Rattle.line.specs.LineReader.{read_line}
use Rattle.line.specs.LineElements.{field_start, Standing}
use Rattle.scan.specs.declared.LineFields.{LineFields}
use Rattle.scan.specs.declared.LineElement.{LineElement}
use Rattle.scan.specs.Walking.{line_result}

unfoldable pub answer_line : List ℕ → Answer LineFields
answer_line s = on_accepted (read_line s) (λ l. Ok (line_result (field_start s 4) l))

-- ---- elements

-- the bytes that are written: a tag's
unfoldable pub tag_bytes : Printed → List ℕ
tag_bytes (number id n) = []
tag_bytes (tag id b) = b

-- a number has no bytes, a tag no number
unfoldable pub element_result : Standing → LineElement
element_result x = made x.content
  where
    made : Printed → LineElement
    made (number id n) = record { id = id; tag = false; value = n; size = 0; next = x.next }
    made (tag id b) = record { id = id; tag = true; value = 0; size = length b; next = x.next }

-- 18 last
unfoldable pub answer_element : Answer Standing → List ℕ → Answer LineElement
answer_element found out = on_accepted found (λ x. check (leb (length (tag_bytes x.content)) (length out)) 18 (Ok (element_result x)))

-- a tag's bytes at the start and nothing changed behind them; a number and a refusal change nothing
unfoldable pub leaving_element : Answer Standing → List ℕ → List ℕ
leaving_element found out = leaving (on_accepted found (λ x. Ok (tag_bytes x.content))) out
