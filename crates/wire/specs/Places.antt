-- Where a part of a lent slice stands. A slice has a place: its block, and the offset of its first byte in it.
use Rattle.std.specs.Prelude.{ℕ, ◌+◌}

-- the place `n` bytes behind another
abbrev pub behind : ℕ × ℕ → ℕ → ℕ × ℕ
behind place n = (place.0, n + place.1)
