-- The TCP packet around a data field: four zero bytes, the field's length, the field, its CRC.
use Rattle.std.specs.Prelude.{Err, Ok, ℕ, ◌+◌, ◌-◌, ◌^◌, ◌≤◌, ◌<◌, ◌≡◌, List, [], ◌∷◌, length, take, drop, eqb, leb}
use Rattle.wire.specs.Limits.{is_known}
use Rattle.wire.specs.Numbers.{Bytes, number_at, be, pick}
use Rattle.wire.specs.Sequences.{fields}
use Rattle.wire.specs.declared.Refusal.{Refusal}
use Rattle.wire.specs.Answers.{Answer, refusal_at, check, check_at}
use Rattle.checksum.specs.Crc.{crc}

-- ---- the rules

unfoldable pub framed : List ℕ → List ℕ
framed d = fields (be 4 0 ∷ be 4 (length d) ∷ d ∷ be 4 (crc d) ∷ [])

-- `largest` is the most bytes that the whole packet may have
pub record FrameRules (largest : ℕ) (d : List ℕ) : Type 0 where
  pub bytes : Bytes d
  pub least : 3 ≤ length d
  pub most : length d + 12 ≤ largest
  pub counted : length d < 256 ^ 4

-- some frame, whatever the limit on its length
pub record IsFrame (p : List ℕ) : Type 0 where
  pub field : List ℕ
  pub bytes : Bytes field
  pub counted : length field < 256 ^ 4
  pub whole : p ≡ framed field

-- ---- the judge

-- the length field, and the data field that it gives
unfoldable pub field_length : List ℕ → ℕ
field_length p = number_at p 4 4

unfoldable pub field_of : List ℕ → List ℕ
field_of p = take (field_length p) (drop 8 p)

-- the header, which is the first eight bytes: 2 at 0, 3 at the length field, else what the rest gives
abbrev pub headed : {A : Type 0} → ℕ → List ℕ → Answer A → Answer A
headed largest p rest =
    check_at (eqb (number_at p 0 4) 0) 2 0
    (check_at (leb 3 (field_length p)) 3 4
    (check_at (leb (field_length p + 12) largest) 3 4
    rest))

-- the length that the header gives
abbrev pub header : ℕ → List ℕ → Answer ℕ
header largest p = headed largest p (Ok (field_length p))

-- the data field, or 21, then 1 to 5, which is at the CRC field
unfoldable pub unframe : ℕ → List ℕ → Answer (List ℕ)
unframe largest p =
    check (is_known largest) 21
    (check (leb 8 (length p)) 1
    (headed largest p
    (check (eqb (length p) (field_length p + 12)) 4
    (check_at (eqb (number_at p (8 + field_length p) 4) (crc (field_of p))) 5 (8 + field_length p)
    (Ok (field_of p))))))

-- the refusal with this number of a packet of `size` bytes: 3 is at the length field, 5 at the CRC field, which is last
unfoldable pub refusal_of : ℕ → ℕ → Refusal
refusal_of size number = refusal_at number (pick (eqb number 3) 4 (pick (eqb number 5) (size - 4) 0))

-- ---- what two packets are compared by

unfoldable pub last_four : List ℕ → List ℕ
last_four p = drop (length p - 4) p

-- ---- what the code answers: the data field's length

unfoldable pub framing : Answer (List ℕ) → Answer ℕ
framing (Ok d) = Ok (length d)
framing (Err r) = Err r
