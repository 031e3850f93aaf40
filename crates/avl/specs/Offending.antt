-- The bytes that a refusal of the walk is about (request 6).
use Rattle.std.specs.Prelude.{ℕ, ◌-◌, List, eqb}
use Rattle.wire.specs.declared.Refusal.{Refusal}
use Rattle.wire.specs.Numbers.{pick}
use Rattle.wire.specs.Reading.{Read, got, bad}
use Rattle.avl.specs.declared.Widths.{Widths}
use Rattle.avl.specs.RecordReader.{plain_record}

-- of what was read from `at` on
unfoldable pub size_from : {A : Type 0} → ℕ → Read A → ℕ
size_from at (got a next) = next - at
size_from at (bad x) = 0

abbrev pub record_size : Widths → List ℕ → ℕ → ℕ
record_size w s at = size_from at (plain_record w s at)

-- from the place on: no byte where a field's bytes are missing or bytes are left over (8); the record for its total and its length (9, 12); the byte of the priority, of the generation type
unfoldable pub offending : Widths → List ℕ → Refusal → ℕ
offending w s x =
    pick (eqb x.number 8) 0
    (pick (eqb x.number 9) (record_size w s x.place)
    (pick (eqb x.number 12) (record_size w s x.place)
    1))
