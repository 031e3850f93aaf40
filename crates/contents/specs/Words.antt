-- The words of a table of contents: how fields stand in a word of 64 bits, and how they are read back.
use Rattle.std.specs.Prelude.{ℕ, ◌+◌, ◌*◌, ◌/◌, ◌%◌, ◌^◌, List, [], ◌∷◌, get_or}
use Rattle.wire.specs.Numbers.{signed}
use Rattle.avl.specs.Records.{Fixed}
use Rattle.avl.specs.declared.DataResult.{DataResult}
use Rattle.datagram.specs.declared.Header.{Header}
use Rattle.element.specs.declared.RecordFields.{RecordFields}
use Rattle.element.specs.declared.Value.{Value}

-- four fields of 16 bits, the first in the lowest
unfoldable pub quad : ℕ → ℕ → ℕ → ℕ → ℕ
quad a b c d = a + 2 ^ 16 * b + 2 ^ 32 * c + 2 ^ 48 * d

-- ---- writing

-- a packet: codec and number of records, and of a datagram its header
unfoldable pub title_words : DataResult → Header → List ℕ
title_words d h = quad d.codec d.count h.packet (h.unused + 2 ^ 8 * h.avl) ∷ h.imei ∷ []

-- a record's fixed fields, the coordinates and what follows them in the order of their bytes; where the record starts in the input, how many bytes and how many elements it has
unfoldable pub record_words : Fixed → ℕ → ℕ → ℕ → List ℕ
record_words f start size elements =
    f.timestamp
    ∷ (f.latitude + 2 ^ 32 * f.longitude)
    ∷ (f.speed + 2 ^ 16 * f.satellites + 2 ^ 24 * f.angle + 2 ^ 40 * f.altitude + 2 ^ 56 * f.priority + 2 ^ 60 * f.generation)
    ∷ quad f.event start size elements
    ∷ []

-- a value: ID, kind, offset from the input's start, length
unfoldable pub value_word : Value → ℕ
value_word v = quad v.id v.kind v.offset v.size

-- ---- reading

-- `n` bits of a word, from bit `at` on
unfoldable pub bits : ℕ → ℕ → ℕ → ℕ
bits word at n = word / 2 ^ at % 2 ^ n

unfoldable pub title_result : List ℕ → DataResult
title_result t = record { codec = bits (get_or t 0 0) 0 16; count = bits (get_or t 0 0) 16 16 }

unfoldable pub title_header : List ℕ → Header
title_header t = record { packet = bits (get_or t 0 0) 32 16; unused = bits (get_or t 0 0) 48 8; avl = bits (get_or t 0 0) 56 8; imei = get_or t 1 0 }

-- the record whose words begin with these
unfoldable pub record_of : List ℕ → RecordFields
record_of t =
    record {
      timestamp = get_or t 0 0;
      latitude = signed 4 (bits (get_or t 1 0) 0 32);
      longitude = signed 4 (bits (get_or t 1 0) 32 32);
      speed = bits (get_or t 2 0) 0 16;
      satellites = bits (get_or t 2 0) 16 8;
      angle = bits (get_or t 2 0) 24 16;
      altitude = signed 2 (bits (get_or t 2 0) 40 16);
      priority = bits (get_or t 2 0) 56 4;
      generation = bits (get_or t 2 0) 60 4;
      event = bits (get_or t 3 0) 0 16;
      elements = bits (get_or t 3 0) 48 16;
    }

unfoldable pub value_of : ℕ → Value
value_of word = record { id = bits word 0 16; kind = bits word 16 8; offset = bits word 32 16; size = bits word 48 16 }
