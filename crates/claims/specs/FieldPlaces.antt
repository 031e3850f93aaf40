-- Where a refusal points (request 6): each field of the walk where its bytes are missing, and the places that are easily taken for another. A datagram's data field starts at 23, its first record at 25.
use Rattle.std.specs.Prelude.{Err, List, [], ◌∷◌, ◌++◌, take, set}
use Rattle.claims.specs.Rows.{Row, EachAsSaid, ◌at◌byte◌}
use Rattle.claims.specs.Calls.{read-datagram, read-login, read-command}
use Rattle.claims.specs.Packets.{field, tcp, udp, login, plain, one16, full16, varied, two, two_udp, getver_field}

-- a record cut short: the field of which bytes are missing
unfoldable pub missing_fields : List Row
missing_fields =
    read-datagram "codec 8: timestamp, no byte" 2 (udp 0x00 0x18 (field 0x08 1 (take 0 plain))) (Err (8 at 0 byte 25))
    ∷ read-datagram "codec 8: timestamp, one byte short" 2 (udp 0x00 0x1F (field 0x08 1 (take 7 plain))) (Err (8 at 0 byte 25))
    ∷ read-datagram "codec 8: priority" 2 (udp 0x00 0x20 (field 0x08 1 (take 8 plain))) (Err (8 at 0 byte 33))
    ∷ read-datagram "codec 8: longitude, no byte" 2 (udp 0x00 0x21 (field 0x08 1 (take 9 plain))) (Err (8 at 0 byte 34))
    ∷ read-datagram "codec 8: longitude, one byte short" 2 (udp 0x00 0x24 (field 0x08 1 (take 12 plain))) (Err (8 at 0 byte 34))
    ∷ read-datagram "codec 8: latitude" 2 (udp 0x00 0x28 (field 0x08 1 (take 16 plain))) (Err (8 at 0 byte 38))
    ∷ read-datagram "codec 8: altitude" 2 (udp 0x00 0x2A (field 0x08 1 (take 18 plain))) (Err (8 at 0 byte 42))
    ∷ read-datagram "codec 8: angle" 2 (udp 0x00 0x2C (field 0x08 1 (take 20 plain))) (Err (8 at 0 byte 44))
    ∷ read-datagram "codec 8: satellites" 2 (udp 0x00 0x2D (field 0x08 1 (take 21 plain))) (Err (8 at 0 byte 46))
    ∷ read-datagram "codec 8: speed" 2 (udp 0x00 0x2F (field 0x08 1 (take 23 plain))) (Err (8 at 0 byte 47))
    ∷ read-datagram "codec 8: event ID" 2 (udp 0x00 0x30 (field 0x08 1 (take 24 plain))) (Err (8 at 0 byte 49))
    ∷ read-datagram "codec 8: total" 2 (udp 0x00 0x31 (field 0x08 1 (take 25 plain))) (Err (8 at 0 byte 50))
    ∷ read-datagram "codec 8: count of one-byte values" 2 (udp 0x00 0x32 (field 0x08 1 (take 26 plain))) (Err (8 at 0 byte 51))
    ∷ read-datagram "codec 8: count of two-byte values" 2 (udp 0x00 0x33 (field 0x08 1 (take 27 plain))) (Err (8 at 0 byte 52))
    ∷ read-datagram "codec 8: count of four-byte values" 2 (udp 0x00 0x34 (field 0x08 1 (take 28 plain))) (Err (8 at 0 byte 53))
    ∷ read-datagram "codec 8: count of eight-byte values" 2 (udp 0x00 0x35 (field 0x08 1 (take 29 plain))) (Err (8 at 0 byte 54))
    ∷ read-datagram "codec 8E: event ID" 2 (udp 0x00 0x31 (field 0x8E 1 (take 25 varied))) (Err (8 at 0 byte 49))
    ∷ read-datagram "codec 8E: total" 2 (udp 0x00 0x33 (field 0x8E 1 (take 27 varied))) (Err (8 at 0 byte 51))
    ∷ read-datagram "codec 8E: count" 2 (udp 0x00 0x35 (field 0x8E 1 (take 29 varied))) (Err (8 at 0 byte 53))
    ∷ read-datagram "codec 8E: an ID" 2 (udp 0x00 0x37 (field 0x8E 1 (take 31 varied))) (Err (8 at 0 byte 55))
    ∷ read-datagram "codec 8E: a value of one byte" 2 (udp 0x00 0x38 (field 0x8E 1 (take 32 varied))) (Err (8 at 0 byte 57))
    ∷ read-datagram "codec 8E: count of variable values" 2 (udp 0x00 0x40 (field 0x8E 1 (take 40 varied))) (Err (8 at 0 byte 64))
    ∷ read-datagram "codec 8E: a variable value's ID" 2 (udp 0x00 0x42 (field 0x8E 1 (take 42 varied))) (Err (8 at 0 byte 66))
    ∷ read-datagram "codec 8E: a length, no byte" 2 (udp 0x00 0x43 (field 0x8E 1 (take 43 varied))) (Err (8 at 0 byte 68))
    ∷ read-datagram "codec 8E: a length, one byte short" 2 (udp 0x00 0x44 (field 0x8E 1 (take 44 varied))) (Err (8 at 0 byte 68))
    ∷ read-datagram "codec 8E: the second length" 2 (udp 0x00 0x48 (field 0x8E 1 (take 48 varied))) (Err (8 at 0 byte 72))
    ∷ read-datagram "codec 8E: a variable value, no byte" 2 (udp 0x00 0x49 (field 0x8E 1 (take 49 varied))) (Err (8 at 0 byte 74))
    ∷ read-datagram "codec 8E: a variable value, one byte short" 2 (udp 0x00 0x4B (field 0x8E 1 (take 51 varied))) (Err (8 at 0 byte 74))
    ∷ read-datagram "codec 16: event ID" 2 (udp 0x00 0x31 (field 0x10 1 (take 25 one16))) (Err (8 at 0 byte 49))
    ∷ read-datagram "codec 16: generation type" 2 (udp 0x00 0x32 (field 0x10 1 (take 26 one16))) (Err (8 at 0 byte 51))
    ∷ read-datagram "codec 16: total" 2 (udp 0x00 0x33 (field 0x10 1 (take 27 one16))) (Err (8 at 0 byte 52))
    ∷ read-datagram "codec 16: an ID" 2 (udp 0x00 0x36 (field 0x10 1 (take 30 one16))) (Err (8 at 0 byte 54))
    ∷ read-datagram "codec 16: a value" 2 (udp 0x00 0x37 (field 0x10 1 (take 31 one16))) (Err (8 at 0 byte 56))
    ∷ read-datagram "codec 8E: count of two-byte values" 2 (udp 0x00 0x3A (field 0x8E 1 (take 34 varied))) (Err (8 at 0 byte 58))
    ∷ read-datagram "codec 8E: count of four-byte values" 2 (udp 0x00 0x3C (field 0x8E 1 (take 36 varied))) (Err (8 at 0 byte 60))
    ∷ read-datagram "codec 8E: count of eight-byte values" 2 (udp 0x00 0x3E (field 0x8E 1 (take 38 varied))) (Err (8 at 0 byte 62))
    ∷ read-datagram "codec 16: count of one-byte values" 2 (udp 0x00 0x34 (field 0x10 1 (take 28 full16))) (Err (8 at 0 byte 53))
    ∷ read-datagram "codec 16: count of two-byte values" 2 (udp 0x00 0x3B (field 0x10 1 (take 35 full16))) (Err (8 at 0 byte 60))
    ∷ read-datagram "codec 16: a two-byte value's ID" 2 (udp 0x00 0x3D (field 0x10 1 (take 37 full16))) (Err (8 at 0 byte 61))
    ∷ read-datagram "codec 16: a two-byte value, no byte" 2 (udp 0x00 0x3E (field 0x10 1 (take 38 full16))) (Err (8 at 0 byte 63))
    ∷ read-datagram "codec 16: a two-byte value, one byte short" 2 (udp 0x00 0x3F (field 0x10 1 (take 39 full16))) (Err (8 at 0 byte 63))
    ∷ read-datagram "codec 16: count of four-byte values" 2 (udp 0x00 0x40 (field 0x10 1 (take 40 full16))) (Err (8 at 0 byte 65))
    ∷ read-datagram "codec 16: a four-byte value's ID" 2 (udp 0x00 0x42 (field 0x10 1 (take 42 full16))) (Err (8 at 0 byte 66))
    ∷ read-datagram "codec 16: a four-byte value" 2 (udp 0x00 0x45 (field 0x10 1 (take 45 full16))) (Err (8 at 0 byte 68))
    ∷ read-datagram "codec 16: count of eight-byte values" 2 (udp 0x00 0x47 (field 0x10 1 (take 47 full16))) (Err (8 at 0 byte 72))
    ∷ read-datagram "codec 16: an eight-byte value's ID" 2 (udp 0x00 0x49 (field 0x10 1 (take 49 full16))) (Err (8 at 0 byte 73))
    ∷ read-datagram "codec 16: an eight-byte value, one byte short" 2 (udp 0x00 0x51 (field 0x10 1 (take 57 full16))) (Err (8 at 0 byte 75))
    ∷ []

-- two faults of the same number, of which the first counts; the first of left-over bytes; the end of the space
unfoldable pub first_of_two : List Row
first_of_two =
    read-login "length 14, digits wrong" (set (set login 1 0x0E) 2 0x2F) (Err (15 at 0 byte 0))
    ∷ read-login "fifth and last digit wrong" (set (set login 6 0x3A) 16 0x3A) (Err (15 at 0 byte 6))
    ∷ read-datagram "length of the IMEI and its digits wrong" 2 (set (set two_udp 6 0x01) 8 0x2F) (Err (15 at 0 byte 6))
    ∷ read-datagram "second and last digit wrong" 2 (set (set two_udp 9 0x2F) 22 0x3A) (Err (15 at 0 byte 9))
    ∷ read-datagram "both counts wrong, the first 0" 2 (udp 0x00 0x54 (set (set two 1 0x00) 62 0x05)) (Err (7 at 0 byte 24))
    ∷ read-datagram "three bytes left over" 2 (udp 0x00 0x39 (field 0x08 1 (plain ++ (0x01 ∷ 0x02 ∷ 0x03 ∷ [])))) (Err (8 at 1 byte 55))
    ∷ read-datagram "two records, priority 3 in both" 2 (udp 0x00 0x54 (set (set two 10 0x03) 40 0x03)) (Err (10 at 0 byte 33))
    ∷ read-datagram "two records, the first's total and the second's wrong" 2 (udp 0x00 0x54 (set (set two 27 0x01) 57 0x01)) (Err (9 at 0 byte 25))
    ∷ read-command "third and sixth pair of digits wrong" 2 (tcp 0x00 0x16 (set (set getver_field 9 0xA9) 12 0x4B) 0x86 0x20) (Err (15 at 0 byte 17)) []
    ∷ []

abbrev pub places : List (List Row)
places = missing_fields ∷ first_of_two ∷ []

abbrev pub AsThePaperPoints : Type 0
AsThePaperPoints = EachAsSaid places
