-- The bytes that a refusal of the walk between the quantities is about (request 6).
use Rattle.std.specs.Prelude.{ℕ, ◌-◌, List, length, eqb}
use Rattle.wire.specs.declared.Refusal.{Refusal}
use Rattle.wire.specs.Numbers.{pick}

-- from the place on: no byte where a field's bytes are missing (8); the size, which stands at 1, else the text, which is last (14); the byte of the type, of two digits
unfoldable pub offending_text : List ℕ → Refusal → ℕ
offending_text s x =
    pick (eqb x.number 8) 0
    (pick (eqb x.number 14) (pick (eqb x.place 1) 4 (length s - x.place))
    1)
