-- Records one behind another in the input.
use Rattle.std.specs.Prelude.{ℕ, ◌+◌, ◌≤◌, ◌≡◌, List, [], ◌∷◌, length}
use Rattle.avl.specs.declared.Widths.{Widths}
use Rattle.avl.specs.Records.{AvlRecord, record_bytes}
use Rattle.element.specs.Places.{part}

pub record Placed : Type 0 where
  pub start : ℕ
  pub content : AvlRecord

unfoldable pub place_records : Widths → ℕ → List AvlRecord → List Placed
place_records w at [] = []
place_records w at (r ∷ rs) = record { start = at; content = r } ∷ place_records w (at + length (record_bytes w r)) rs

-- the records fill the input from `from` to `to`, each beginning where the one before ends
abbrev pub Tiles : Widths → List ℕ → ℕ → ℕ → List Placed → Type 0
Tiles w p from to [] = from ≡ to
Tiles w p from to (x ∷ xs) =
    (x.start ≡ from)
    × (from + length (record_bytes w x.content) ≤ length p)
    × (part p from (length (record_bytes w x.content)) ≡ record_bytes w x.content)
    × Tiles w p (from + length (record_bytes w x.content)) to xs
