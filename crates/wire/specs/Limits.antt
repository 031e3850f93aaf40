-- Families of unit (request 5): the most bytes that a TCP packet, a datagram and a record of each may have.
use Rattle.std.specs.Prelude.{ℕ, ◌≤◌, Bool, eqb, leb}
use Rattle.wire.specs.declared.Limits.{Limits}
use Rattle.wire.specs.Numbers.{pick}

-- the most that any family allows
abbrev pub largest_of_all : ℕ
largest_of_all = 1280

-- `largest` holds for data and commands over TCP. Family 2 has no record limit: a record lies within its packet, so none has more bytes than that may have
unfoldable pub limits_of : ℕ → Limits
limits_of family =
    pick (eqb family 1) (record { largest = 512; datagram = 512; longest = 255 })
    (pick (eqb family 2) (record { largest = 1280; datagram = 1280; longest = 1280 })
    (record { largest = 0; datagram = 0; longest = 0 }))

-- whether a limit is some family's; where it is not, 21 comes before all others
abbrev pub is_known : ℕ → Bool
is_known limit = leb 1 limit

-- what the first allows, the second allows
pub record Below (a b : Limits) : Type 0 where
  pub packets : a.largest ≤ b.largest
  pub datagrams : a.datagram ≤ b.datagram
  pub records : a.longest ≤ b.longest
