-- What writers along records need and do: content is read at one place, and its text is stored at another.
use Rattle.std.specs.Prelude.{ℕ, ◌+◌, ◌*◌, ◌^◌, ◌≤◌, ◌<◌, ◌≡◌, List, length}
use Rattle.std.proofs.lemmas.List.Edits.{sets}
use Rattle.wire.specs.Numbers.{Bytes}
use Rattle.wire.specs.Reading.{got, Reader}
use Rattle.traverse.specs.declared.Moved.{Moved}

-- `m` can read at `from`; eight places to store at for each byte read are enough
pub record Ready {A : Type 0} (m : Reader A) (s : List ℕ) (from to : ℕ) : Type 0 where
  pub bytes : Bytes s
  pub small : length s < 2 ^ 32
  pub inside : from ≤ length s
  pub behind : to ≤ 8 * from + 5
  pub content : A
  pub next : ℕ
  pub reads : m s from ≡ got content next

-- the text of what `m` reads at `from` is stored from `to` on, and reading and storing go on behind it
pub record Copies {A : Type 0} (m : Reader A) (text : ℕ → A → List ℕ) (s : List ℕ) (from to : ℕ) (before after : List ℕ) (r : Moved) : Type 0 where
  pub moves : (a : A) (n : ℕ) → m s from ≡ got a n → r ≡ record { from = n; to = to + length (text from a) }
  pub stores : (a : A) (n : ℕ) → m s from ≡ got a n → after ≡ sets before to (text from a)

-- storing gets ahead of reading by at most eight places for each byte that is read
pub record OnPace (s : List ℕ) (from to : ℕ) (r : Moved) : Type 0 where
  pub inside : r.from ≤ length s
  pub ahead : 8 * from + r.to ≤ 8 * r.from + to
