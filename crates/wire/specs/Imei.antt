-- An IMEI: a number of 15 decimal digits, as text (login, UDP) or two digits a byte (codec 14).
use Rattle.std.specs.Prelude.{ℕ, zero, suc, ◌+◌, ◌-◌, ◌*◌, ◌/◌, ◌%◌, false, List, [], ◌∷◌, eqb, leb}
use Rattle.wire.specs.Numbers.{be, digits, value_from, pick}
use Rattle.wire.specs.Sequences.{fields, joined}
use Rattle.wire.specs.Reading.{Reader, ◌>>=◌, ◌>>◌, pure, here, require, number, repeat}

-- ---- as text: the length 15 in two bytes, then 15 ASCII digits

abbrev pub ascii_digit : ℕ → List ℕ
ascii_digit d = (48 + d) ∷ []

unfoldable pub imei_text : ℕ → List ℕ
imei_text imei = fields (be 2 15 ∷ joined ascii_digit (digits 10 15 imei) ∷ [])

-- a digit, else 15
unfoldable pub text_digit : Reader ℕ
text_digit = do
  start ← here
  c ← number 1
  require (pick (leb 48 c) (leb c 57) false) 15 start
  pure (c - 48)

unfoldable pub read_imei : Reader ℕ
read_imei = do
  start ← here
  size ← number 2
  require (eqb size 15) 15 start
  ds ← repeat 15 text_digit
  pure (value_from 10 0 ds)

-- ---- packed: two digits a byte, the higher first, and the first digit of all is 0

abbrev pub packed_pair : ℕ → List ℕ
packed_pair d = (d / 10 * 16 + d % 10) ∷ []

-- the IMEI in `w` bytes
unfoldable pub packed : ℕ → ℕ → List ℕ
packed w imei = joined packed_pair (digits 100 w imei)

-- two digits, the first at most `most`, else 15
unfoldable pub pair_up_to : ℕ → Reader ℕ
pair_up_to most = do
  start ← here
  b ← number 1
  require (pick (leb (b / 16) most) (leb (b % 16) 9) false) 15 start
  pure (b / 16 * 10 + b % 16)

-- the IMEI in `w` bytes; in no bytes it is 0
unfoldable pub read_packed : ℕ → Reader ℕ
read_packed zero = pure 0
read_packed (suc w) = do
  d ← pair_up_to 0
  ds ← repeat w (pair_up_to 9)
  pure (value_from 100 0 (d ∷ ds))
