-- Hex text: which bytes are hex text, which bytes it stands for, and how bytes are written so.
use Rattle.std.specs.Prelude.{None, Option, Some, ℕ, ◌+◌, ◌-◌, ◌*◌, ◌/◌, ◌%◌, Bool, true, false, List, [], ◌∷◌, length, eqb, leb, ltb}
use Rattle.wire.specs.Numbers.{pick}
use Rattle.text.specs.declared.Mark.{Mark}
use Rattle.text.specs.declared.Mark.TheVariants.{Digit, Space, Other}

-- from a to b
abbrev pub among : ℕ → ℕ → ℕ → Bool
among a b c = pick (leb a c) (leb c b) false

-- 0 to 9, A to F and a to f; white space is a space, a tab or the end of a line or page
unfoldable pub mark_of : ℕ → Mark
mark_of c =
    pick (among 48 57 c) (Digit (c - 48))
    (pick (among 65 70 c) (Digit (c - 55))
    (pick (among 97 102 c) (Digit (c - 87))
    (pick (among 9 13 c) Space
    (pick (eqb c 32) Space Other))))

abbrev pub on_mark {ℓ} : {A : Type ℓ} → Mark → (ℕ → A) → A → A → A
on_mark (Digit d) digit space other = digit d
on_mark Space digit space other = space
on_mark Other digit space other = other

-- every byte is a digit or white space
unfoldable pub is_hex : List ℕ → Bool
is_hex [] = true
is_hex (c ∷ s) = on_mark (mark_of c) (λ d. is_hex s) (is_hex s) false

-- the digits' values
unfoldable pub digits : List ℕ → List ℕ
digits [] = []
digits (c ∷ s) = on_mark (mark_of c) (λ d. d ∷ digits s) (digits s) (digits s)

unfoldable pub kind_of : List ℕ → Option ℕ
kind_of s = pick (is_hex s) (Some (length (digits s))) None

-- a byte for each pair of digits; a last single digit gives none
unfoldable pub paired : List ℕ → List ℕ
paired [] = []
paired (a ∷ []) = []
paired (a ∷ b ∷ ds) = (a * 16 + b) ∷ paired ds

-- the bytes that hex text stands for
unfoldable pub hex_bytes : List ℕ → List ℕ
hex_bytes s = paired (digits s)

-- 0 to 9, A to F
unfoldable pub glyph_of : ℕ → ℕ
glyph_of d = pick (ltb d 10) (48 + d) (55 + d)

-- two digits for each byte
unfoldable pub hex_text : List ℕ → List ℕ
hex_text [] = []
hex_text (b ∷ s) = glyph_of (b / 16) ∷ glyph_of (b % 16) ∷ hex_text s

-- every byte is printable ASCII
unfoldable pub printable : List ℕ → Bool
printable [] = true
printable (b ∷ s) = pick (among 32 126 b) (printable s) false
