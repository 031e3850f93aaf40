-- A line for the billing desk: what one is, the rules it keeps, and its bytes.
use Rattle.std.specs.Prelude.{ℕ, suc, ◌/◌, ◌%◌, ◌^◌, ◌<◌, Bool, false, List, [], ◌∷◌, ◌++◌, eqb, ℤ, pos, negsuc}
use Rattle.wire.specs.Numbers.{Bytes, digits, pick}
use Rattle.wire.specs.Sequences.{joined, All}
use Rattle.wire.specs.Imei.{ascii_digit}
use Rattle.text.specs.Hex.{among, glyph_of}
use Rattle.text.specs.Decimal.{decimal}
use Rattle.line.specs.Pieces.{separated}

-- what is printed of an element: its ID, with the number of a fixed value or the bytes of a variable one
pub data Printed : Type 0 where
  number : ℕ → ℕ → Printed
  tag : ℕ → List ℕ → Printed

-- the printed fields of a record; coordinates in ten-millionths of a degree
pub record Line : Type 0 where
  pub timestamp : ℕ
  pub longitude : ℤ
  pub latitude : ℤ
  pub speed : ℕ
  pub elements : List Printed

-- ---- the rules

-- a number of 32 bits with a sign
abbrev pub FitsI32 : ℤ → Type 0
FitsI32 (pos m) = m < 2 ^ 31
FitsI32 (negsuc m) = m < 2 ^ 31

abbrev pub PrintedRules : Printed → Type 0
PrintedRules (number id n) = (id < 2 ^ 16) × (n < 2 ^ 64)
PrintedRules (tag id b) = (id < 2 ^ 16) × Bytes b

abbrev pub NoNumbers : List Printed → Type 0
NoNumbers [] = Unit {0}
NoNumbers (number id n ∷ l) = ⊥
NoNumbers (tag id b ∷ l) = NoNumbers l

-- tags stand behind all numbers
abbrev pub TagsLast : List Printed → Type 0
TagsLast [] = Unit {0}
TagsLast (number id n ∷ l) = TagsLast l
TagsLast (tag id b ∷ l) = NoNumbers l

pub record LineRules (l : Line) : Type 0 where
  pub timestamp_fits : l.timestamp < 2 ^ 64
  pub longitude_fits : FitsI32 l.longitude
  pub latitude_fits : FitsI32 l.latitude
  pub speed_fits : l.speed < 2 ^ 16
  pub each : All PrintedRules l.elements
  pub order : TagsLast l.elements

-- ---- the bytes

-- degrees with seven places
unfoldable pub unsigned_degrees : ℕ → List ℕ
unsigned_degrees m = decimal (m / 10 ^ 7) ++ (46 ∷ joined ascii_digit (digits 10 7 (m % 10 ^ 7)))

-- with a minus sign (45) when negative
unfoldable pub degrees : ℤ → List ℕ
degrees (pos m) = unsigned_degrees m
degrees (negsuc m) = 45 ∷ unsigned_degrees (suc m)

-- 20 to 7E, but quote (34), comma and backslash (92)
unfoldable pub is_plain : ℕ → Bool
is_plain b = pick (eqb b 34) false (pick (eqb b 44) false (pick (eqb b 92) false (among 32 126 b)))

-- a byte of a tag: itself, or a backslash and two upper-case hex digits
unfoldable pub escaped : ℕ → List ℕ
escaped b = pick (is_plain b) (b ∷ []) (92 ∷ glyph_of (b / 16) ∷ glyph_of (b % 16) ∷ [])

unfoldable pub quoted : List ℕ → List ℕ
quoted b = 34 ∷ (joined escaped b ++ (34 ∷ []))

-- the text of an element: ID=value
unfoldable pub printed_text : Printed → List ℕ
printed_text (number id n) = decimal id ++ (61 ∷ decimal n)
printed_text (tag id b) = decimal id ++ (61 ∷ quoted b)

unfoldable pub texts : List Printed → List (List ℕ)
texts [] = []
texts (e ∷ l) = printed_text e ∷ texts l

-- the four leading fields, then the elements
unfoldable pub line_fields : Line → List (List ℕ)
line_fields l = decimal l.timestamp ∷ degrees l.longitude ∷ degrees l.latitude ∷ decimal l.speed ∷ texts l.elements

-- commas between them, and LF (10) at the end
unfoldable pub line_bytes : Line → List ℕ
line_bytes l = separated (line_fields l) ++ (10 ∷ [])
