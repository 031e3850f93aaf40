-- The candidate's data field: its form within limits, and whether that is the given one.
use Rattle.std.specs.Prelude.{Err, Ok, ℕ, ◌+◌, ◌^◌, ◌≤◌, ◌<◌, Bool, false, List, length, leb}
use Rattle.wire.specs.declared.Limits.{Limits}
use Rattle.wire.specs.Limits.{largest_of_all}
use Rattle.wire.specs.Answers.{Answer, check}
use Rattle.form.specs.Moves.{form_of_field}
use Rattle.tlv.specs.PacketOf.{same}

-- the arrays are long enough, and an entry's length can tell a value's
pub record Roomy (limits : Limits) : Type 0 where
  pub packets : limits.largest ≤ largest_of_all
  pub records : limits.longest < 256 ^ 2

unfoldable pub form_within : Limits → List ℕ → Answer (List ℕ)
form_within limits d = check (leb (length d + 12) limits.largest) 17 (form_of_field limits.longest d)

unfoldable pub has_form : Answer (List ℕ) → List ℕ → Bool
has_form (Ok g) f = same g f
has_form (Err r) f = false
