-- The text that the program says: with numbers in it, between quotes, and of the bytes around a place.
use Rattle.std.specs.Prelude.{ℕ, ◌-◌, Bool, true, false, List, [], ◌∷◌, ◌++◌, length, get_or, take, drop, replicate, eqb, ltb}
use Rattle.wire.specs.Numbers.{pick}
use Rattle.text.specs.Hex.{among, hex_text}
use Rattle.text.specs.Decimal.{decimal}

-- ---- a number in decimal

-- with `pad` in front up to `width`
unfoldable pub padded : ℕ → ℕ → ℕ → List ℕ
padded width pad n = replicate (width - length (decimal n)) pad ++ decimal n

-- the width that a character means: 1 to 9, A for 10 to F for 15
unfoldable pub width_of : ℕ → ℕ
width_of c = pick (ltb c 65) (c - 48) (c - 55)

-- ---- text with numbers in it, each for a mark and the character behind it

-- %, ~ and ^
unfoldable pub is_mark : ℕ → Bool
is_mark c = pick (eqb c 37) true (pick (eqb c 126) true (eqb c 94))

-- %w: with zeros in front up to w digits; ~w: with spaces; ^c: the character c so often
unfoldable pub shown : ℕ → ℕ → ℕ → List ℕ
shown mark c n = pick (eqb mark 37) (padded (width_of c) 48 n) (pick (eqb mark 126) (padded (width_of c) 32 n) (replicate n c))

-- a number that is missing is 0, and a mark with nothing behind it is not shown
unfoldable pub rendered : List ℕ → List ℕ → List ℕ
rendered [] numbers = []
rendered (c ∷ []) numbers = pick (is_mark c) [] (c ∷ [])
rendered (c ∷ d ∷ s) numbers = pick (is_mark c) (shown c d (get_or numbers 0 0) ++ rendered s (drop 1 numbers)) (c ∷ rendered (d ∷ s) numbers)

-- ---- text between quotes

-- printable, but quote and backslash
unfoldable pub is_plain : ℕ → Bool
is_plain b = pick (eqb b 34) false (pick (eqb b 92) false (among 32 126 b))

-- as it is, or \xNN
unfoldable pub quotable : ℕ → List ℕ
quotable b = pick (is_plain b) (b ∷ []) (92 ∷ 120 ∷ hex_text (b ∷ []))

-- what is left of a text, and the quote that ends it
unfoldable pub closing : List ℕ → List ℕ
closing [] = 34 ∷ []
closing (b ∷ s) = quotable b ++ closing s

unfoldable pub quoted : List ℕ → List ℕ
quoted s = 34 ∷ closing s

-- ---- the bytes around a place of an input

-- a space and hex text; nothing for no bytes
unfoldable pub group : List ℕ → List ℕ
group [] = []
group (b ∷ s) = 32 ∷ hex_text (b ∷ s)

-- "  from byte %1:", the offset of the first byte that is shown
unfoldable pub from_byte : ℕ → List ℕ
from_byte n = rendered (32 ∷ 32 ∷ 102 ∷ 114 ∷ 111 ∷ 109 ∷ 32 ∷ 98 ∷ 121 ∷ 116 ∷ 101 ∷ 32 ∷ 37 ∷ 49 ∷ 58 ∷ []) (n ∷ [])

-- the input from the place on: its byte in brackets, which are empty at the input's end, and up to 16 behind it
unfoldable pub onward : List ℕ → List ℕ
onward s = (32 ∷ 91 ∷ []) ++ hex_text (take 1 s) ++ (93 ∷ []) ++ group (take 16 (drop 1 s)) ++ (10 ∷ [])

-- up to 16 bytes before the place, and the input from there on
unfoldable pub around : List ℕ → ℕ → List ℕ
around p place = from_byte (place - 16) ++ group (drop (place - 16) (take place p)) ++ onward (drop place p)
