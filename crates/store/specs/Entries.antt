-- TLV entries: length (bytes after the kind), kind, body; all numbers little-endian.
use Rattle.std.specs.Prelude.{ℕ, zero, suc, ◌+◌, List, [], ◌∷◌, length, take, drop}
use Rattle.wire.specs.Numbers.{little_at, le}
use Rattle.wire.specs.Sequences.{fields}

pub record Entry : Type 0 where
  pub kind : ℕ
  pub body : List ℕ

unfoldable pub entry_bytes : Entry → List ℕ
entry_bytes e = fields (le 2 (length e.body) ∷ le 2 e.kind ∷ e.body ∷ [])

-- the entries that bytes hold, read leniently, at most `n` of them
unfoldable pub entries_from : ℕ → List ℕ → List Entry
entries_from zero s = []
entries_from (suc n) [] = []
entries_from (suc n) (b ∷ s) =
    record { kind = little_at (b ∷ s) 2 2; body = take (little_at (b ∷ s) 0 2) (drop 4 (b ∷ s)) }
    ∷ entries_from n (drop (4 + little_at (b ∷ s) 0 2) (b ∷ s))

unfoldable pub entries_of : List ℕ → List Entry
entries_of s = entries_from (length s) s

-- ---- the entry at an offset; bytes past the end are 0

abbrev pub kind_at : List ℕ → ℕ → ℕ
kind_at f at = little_at f (at + 2) 2

abbrev pub body_at : List ℕ → ℕ → List ℕ
body_at f at = take (little_at f at 2) (drop (at + 4) f)

abbrev pub next_at : List ℕ → ℕ → ℕ
next_at f at = at + 4 + little_at f at 2

abbrev pub entry_at : List ℕ → ℕ → Entry
entry_at f at = record { kind = kind_at f at; body = body_at f at }

-- the entries from an offset on
unfoldable pub entries_at : List ℕ → ℕ → List Entry
entries_at f at = entries_of (drop at f)
