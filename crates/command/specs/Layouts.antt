-- The command codecs: one row for each.
use Rattle.std.specs.Prelude.{Err, None, Ok, Option, Some, ℕ, ◌+◌, ◌≤◌, Bool, true, false, List, [], ◌∷◌, get_or, eqb}
use Rattle.command.specs.declared.Layout.{Layout}
use Rattle.wire.specs.Numbers.{pick}
use Rattle.wire.specs.Answers.{Answer, refusal, is_accepted}

-- the message types of a row: 05 command, 06 response and, where it has it, 11 (the IMEI does not match)
unfoldable pub types : Layout → List ℕ
types l = 0x05 ∷ 0x06 ∷ pick l.mismatch (0x11 ∷ []) []

unfoldable pub layouts : List Layout
layouts =
    record { codec = 0x0C; mismatch = false; imei = 0; time = 0 }
    ∷ record { codec = 0x0D; mismatch = false; imei = 0; time = 4 }
    ∷ record { codec = 0x0E; mismatch = true; imei = 8; time = 0 }
    ∷ []

-- the bytes of IMEI and time before the text, which the size counts
abbrev pub heading : Layout → ℕ
heading l = l.imei + l.time

-- an IMEI of at most eight bytes, a time of at most four
abbrev pub Narrow : Layout → Type 0
Narrow l = (l.imei ≤ 8) × (l.time ≤ 4)

-- the first row with this codec, else 6
unfoldable pub find_layout : ℕ → List Layout → Answer Layout
find_layout codec [] = Err (refusal 6)
find_layout codec (l ∷ ls) = pick (eqb codec l.codec) (Ok l) (find_layout codec ls)

unfoldable pub layout_of : ℕ → Answer Layout
layout_of codec = find_layout codec layouts

-- a packet of one of these codecs: its codec stands at 8
abbrev pub is_command : List ℕ → Bool
is_command p = is_accepted (layout_of (get_or p 8 0))

abbrev pub member : ℕ → List ℕ → Bool
member x [] = false
member x (y ∷ l) = pick (eqb x y) true (member x l)

-- what the code's answer says: no row is 6
unfoldable pub row_as : Option Layout → Answer Layout
row_as (Some l) = Ok l
row_as None = Err (refusal 6)
