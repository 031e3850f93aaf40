-- The width sets of codecs 8, 8 Extended and 16.
use Rattle.std.specs.Prelude.{ℕ, Bool, true, false, List, [], ◌∷◌, eqb}
use Rattle.wire.specs.Numbers.{pick}
use Rattle.avl.specs.declared.Widths.{Widths}

abbrev pub codec8 : Widths
codec8 = record { event = 1; generation = 0; count = 1; id = 1; variable = false }

abbrev pub codec8_e : Widths
codec8_e = record { event = 2; generation = 0; count = 2; id = 2; variable = true }

abbrev pub codec16 : Widths
codec16 = record { event = 2; generation = 1; count = 1; id = 2; variable = false }

unfoldable pub widths_of : ℕ → Widths
widths_of codec = pick (eqb codec 0x08) codec8 (pick (eqb codec 0x8E) codec8_e codec16)

-- a codec of data packets
unfoldable pub is_data_codec : ℕ → Bool
is_data_codec codec = pick (eqb codec 0x08) true (pick (eqb codec 0x8E) true (eqb codec 0x10))

-- the kinds of a record's groups in order: values of 1, 2, 4 and 8 bytes, and 9 for values with a length of their own
unfoldable pub kinds : Widths → List ℕ
kinds w = 1 ∷ 2 ∷ 4 ∷ 8 ∷ pick w.variable (9 ∷ []) []

-- all kinds, of which records without variable values have the first four
abbrev pub all_kinds : List ℕ
all_kinds = 1 ∷ 2 ∷ 4 ∷ 8 ∷ 9 ∷ []
