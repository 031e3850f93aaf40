-- A value lies within its record.
use Rattle.std.specs.Prelude.{ℕ, ◌+◌, ◌≤◌, ◌≡◌, List, length, take, drop}
use Rattle.element.specs.Elements.{Located}

-- the `n` bytes of `s` from `at` on
unfoldable pub part : List ℕ → ℕ → ℕ → List ℕ
part s at n = take n (drop at s)

-- a value lies within the bytes of its record
pub record Inside (e : Located) (bytes : List ℕ) : Type 0 where
  pub within : e.place + length e.value ≤ length bytes
  pub stands : part bytes e.place (length e.value) ≡ e.value
