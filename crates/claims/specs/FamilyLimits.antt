-- The limits of each family (request 5), and 21, which comes before all others and changes no byte.
use Rattle.std.specs.Prelude.{Err, Ok, ℕ, zero, suc, List, [], ◌∷◌, ◌++◌, take, set, replicate}
use Rattle.claims.specs.Rows.{Row, EachAsSaid, ◌at◌, ◌at◌byte◌}
use Rattle.claims.specs.Calls.{read-packet, read-datagram, read-command, record-in-packet, record-in-datagram, value-in-packet, value-in-datagram, id-in-packet, id-in-datagram, last-known, acknowledge-packet, acknowledge-datagram, write-command, form-of-packet, form-of-datagram, packet-of-form, contents-of-packet, contents-of-datagram, line-of-packet, line-of-datagram, lines-of-packet, lines-of-datagram}
use Rattle.claims.specs.Packets.{field, tcp, unit, udp, start, long, two_tcp, two_udp, broken_tcp, broken_udp, newer, older}
use Rattle.claims.specs.BenchSheet.{sample, sample_form, getio}
use Rattle.claims.specs.Answers.{header}
use Rattle.claims.specs.Feeds.{long_tcp}

-- ---- packets and forms

-- one record of 256 bytes, and its form: the codec, the fixed fields, a variable value
abbrev pub one_long : List ℕ
one_long = tcp 0x01 0x03 (field 0x8E 1 (long 214 1)) 0x83 0x19

-- the entry of the fixed fields of `start`, event 0
abbrev pub fixed_entry : ℕ → List ℕ
fixed_entry generation =
    0x1B ∷ 0x00 ∷ 0x65 ∷ 0x00 ∷ 0x30 ∷ 0x83 ∷ 0xC7 ∷ 0xDB ∷ 0x6B ∷ 0x01 ∷ 0x00 ∷ 0x00 ∷ 0x01 ∷ 0x80 ∷ 0xCA ∷ 0x9C ∷ 0x20 ∷ 0xFF ∷ 0xFF ∷ 0xFF ∷ 0xFF ∷ 0x64 ∷ 0x00 ∷ 0xB4 ∷ 0x00 ∷ 0x07 ∷ 0x05 ∷ 0x00 ∷ 0x00 ∷ 0x00 ∷ generation ∷ []

abbrev pub one_long_form : List ℕ
one_long_form = (0x01 ∷ 0x00 ∷ 0x64 ∷ 0x00 ∷ 0x8E ∷ []) ++ fixed_entry 0x00 ++ (0xD8 ∷ 0x00 ∷ 0x09 ∷ 0x00 ∷ 0x09 ∷ 0x00 ∷ replicate 214 7)

-- 200 values of one byte and 56 of two, in codec 8 and in codec 16; the total says what is given
abbrev pub many8 : ℕ → List ℕ
many8 total = start ++ (0x00 ∷ total ∷ 200 ∷ (replicate 400 7 ++ (56 ∷ (replicate 168 7 ++ (0x00 ∷ 0x00 ∷ [])))))

abbrev pub many16 : ℕ → List ℕ
many16 total = start ++ (0x00 ∷ 0x00 ∷ 0x05 ∷ total ∷ 200 ∷ (replicate 600 7 ++ (56 ∷ (replicate 224 7 ++ (0x00 ∷ 0x00 ∷ [])))))

abbrev pub times : ℕ → List ℕ → List ℕ
times zero l = []
times (suc n) l = l ++ times n l

-- the same values as a form
abbrev pub many_form : ℕ → ℕ → List ℕ
many_form codec generation =
    (0x01 ∷ 0x00 ∷ 0x64 ∷ 0x00 ∷ codec ∷ []) ++ fixed_entry generation ++ times 200 (0x03 ∷ 0x00 ∷ 0x01 ∷ 0x00 ∷ 0x07 ∷ 0x00 ∷ 0x07 ∷ []) ++ times 56 (0x04 ∷ 0x00 ∷ 0x02 ∷ 0x00 ∷ 0x07 ∷ 0x00 ∷ 0x07 ∷ 0x07 ∷ [])

-- ---- the rows

-- 21, whatever else is wrong, and at every call that names a family; a start has it in `Feeds`
unfoldable pub unknown_families : List Row
unknown_families =
    read-packet "family 0, no bytes" 0 [] (Err (21 at 0))
    ∷ read-packet "family 3, a good packet" 3 two_tcp (Err (21 at 0))
    ∷ read-packet "family 258, CRC wrong" 258 (set two_tcp 74 0xB2) (Err (21 at 0))
    ∷ read-datagram "family 0, no bytes" 0 [] (Err (21 at 0))
    ∷ read-datagram "family 3, a good datagram" 3 two_udp (Err (21 at 0))
    ∷ read-command "family 0, under 8 bytes" 0 (take 7 getio) (Err (21 at 0)) []
    ∷ read-command "family 3, a good command" 3 getio (Err (21 at 0)) []
    ∷ record-in-packet "family 3, no such record" 3 two_tcp 2 (Err (21 at 0))
    ∷ record-in-datagram "family 3" 3 two_udp 0 (Err (21 at 0))
    ∷ value-in-packet "family 3" 3 newer 0 0 (Err (21 at 0)) []
    ∷ value-in-datagram "family 3, refused datagram" 3 broken_udp 0 0 (Err (21 at 0)) []
    ∷ id-in-packet "family 3" 3 newer 0 0x0143 (Err (21 at 0)) 0 []
    ∷ id-in-datagram "family 3" 3 sample 0 0x15 (Err (21 at 0)) 0 []
    ∷ last-known "family 3" 3 newer older 0x0143 (Err (21 at 0)) 0 []
    ∷ acknowledge-packet "family 3, a good packet" 3 two_tcp (replicate 5 7) (Err (21 at 0)) (replicate 5 7)
    ∷ acknowledge-packet "family 0, refused packet, none lent" 0 broken_tcp [] (Err (21 at 0)) []
    ∷ acknowledge-datagram "family 3, none lent" 3 two_udp [] (Err (21 at 0)) []
    ∷ write-command "family 3, codec 08" 3 0x08 0x07 unit 0x64E83281 (0x78 ∷ []) (replicate 3 7) (Err (21 at 0)) (replicate 3 7)
    ∷ form-of-packet "family 3, none lent" 3 two_tcp [] (Err (21 at 0)) []
    ∷ form-of-datagram "family 3" 3 sample (replicate 44 7) (Err (21 at 0)) (replicate 44 7)
    ∷ packet-of-form "family 3" 3 sample_form (replicate 48 7) (Err (21 at 0)) (replicate 48 7)
    ∷ packet-of-form "family 0, no form" 0 [] [] (Err (21 at 0)) []
    ∷ contents-of-packet "family 3" 3 two_tcp (replicate 11 7) (Err (21 at 0)) (replicate 11 7)
    ∷ contents-of-datagram "family 3, none lent" 3 sample [] (Err (21 at 0)) []
    ∷ line-of-packet "family 3, no such record" 3 two_tcp 2 (replicate 3 7) (Err (21 at 0)) (replicate 3 7)
    ∷ line-of-datagram "family 3" 3 sample 0 (replicate 50 7) (Err (21 at 0)) (replicate 50 7)
    ∷ lines-of-packet "family 3" 3 two_tcp (replicate 3 7) (Err (21 at 0)) (replicate 3 7)
    ∷ lines-of-datagram "family 3" 3 sample [] (Err (21 at 0)) []
    ∷ []

-- the last that a family takes, and the first that it does not: 3, 12, 14, 17
unfoldable pub family_limits : List Row
family_limits =
    read-packet "family 1, L 501" 1 (0x00 ∷ 0x00 ∷ 0x00 ∷ 0x00 ∷ 0x00 ∷ 0x00 ∷ 0x01 ∷ 0xF5 ∷ []) (Err (3 at 0 byte 4))
    ∷ read-packet "family 1, L 500, no more bytes" 1 (0x00 ∷ 0x00 ∷ 0x00 ∷ 0x00 ∷ 0x00 ∷ 0x00 ∷ 0x01 ∷ 0xF4 ∷ []) (Err (4 at 0))
    ∷ read-packet "family 2, L 501, no more bytes" 2 (0x00 ∷ 0x00 ∷ 0x00 ∷ 0x00 ∷ 0x00 ∷ 0x00 ∷ 0x01 ∷ 0xF5 ∷ []) (Err (4 at 0))
    ∷ read-command "family 1, L 501" 1 (0x00 ∷ 0x00 ∷ 0x00 ∷ 0x00 ∷ 0x00 ∷ 0x00 ∷ 0x01 ∷ 0xF5 ∷ []) (Err (3 at 0 byte 4)) []
    ∷ read-command "family 1, L 500, no more bytes" 1 (0x00 ∷ 0x00 ∷ 0x00 ∷ 0x00 ∷ 0x00 ∷ 0x00 ∷ 0x01 ∷ 0xF4 ∷ []) (Err (4 at 0)) []
    ∷ read-command "family 2, L 501, no more bytes" 2 (0x00 ∷ 0x00 ∷ 0x00 ∷ 0x00 ∷ 0x00 ∷ 0x00 ∷ 0x01 ∷ 0xF5 ∷ []) (Err (4 at 0)) []
    ∷ read-datagram "family 1, 513 bytes, length 0" 1 (udp 0x00 0x00 (replicate 490 0)) (Err (3 at 0))
    ∷ read-datagram "family 1, 512 bytes, codec 00" 1 (udp 0x01 0xFE (replicate 489 0)) (Err (6 at 0 byte 23))
    ∷ read-datagram "family 2, 513 bytes, codec 00" 2 (udp 0x01 0xFF (replicate 490 0)) (Err (6 at 0 byte 23))
    ∷ write-command "family 1, codec 12, 513 bytes" 1 0x0C 0x06 [] 0x64E83281 (replicate 493 7) (replicate 3 7) (Err (14 at 0)) (replicate 3 7)
    ∷ write-command "family 1, codec 12, 512 bytes" 1 0x0C 0x06 [] 0x64E83281 (replicate 492 7) (replicate 3 7) (Err (18 at 0)) (replicate 3 7)
    ∷ write-command "family 2, codec 12, 513 bytes" 2 0x0C 0x06 [] 0x64E83281 (replicate 493 7) (replicate 3 7) (Err (18 at 0)) (replicate 3 7)
    ∷ write-command "family 1, codec 13, 513 bytes" 1 0x0D 0x06 [] 0x64E83281 (replicate 489 7) (replicate 3 7) (Err (14 at 0)) (replicate 3 7)
    ∷ write-command "family 1, codec 13, 512 bytes" 1 0x0D 0x06 [] 0x64E83281 (replicate 488 7) (replicate 3 7) (Err (18 at 0)) (replicate 3 7)
    ∷ write-command "family 2, codec 13, 513 bytes" 2 0x0D 0x06 [] 0x64E83281 (replicate 489 7) (replicate 3 7) (Err (18 at 0)) (replicate 3 7)
    ∷ write-command "family 1, codec 14, 513 bytes" 1 0x0E 0x06 unit 0x64E83281 (replicate 485 7) (replicate 3 7) (Err (14 at 0)) (replicate 3 7)
    ∷ write-command "family 1, codec 14, 512 bytes" 1 0x0E 0x06 unit 0x64E83281 (replicate 484 7) (replicate 3 7) (Err (18 at 0)) (replicate 3 7)
    ∷ write-command "family 2, codec 14, 513 bytes" 2 0x0E 0x06 unit 0x64E83281 (replicate 485 7) (replicate 3 7) (Err (18 at 0)) (replicate 3 7)
    ∷ read-packet "family 2, a record of 256 bytes" 2 long_tcp (Ok (record { codec = 0x8E; count = 2 }))
    ∷ read-datagram "family 2, a record of 256 bytes" 2 (udp 0x01 0x42 (field 0x8E 2 (long 0 1 ++ long 214 1))) (Ok (record { payload = record { codec = 0x8E; count = 2 }; header = header }))
    ∷ value-in-packet "family 2, up to byte 256 of a record" 2 long_tcp 1 0 (Ok (record { id = 9; kind = 9; offset = 94; size = 214 })) (replicate 214 7)
    ∷ id-in-packet "family 1, the same" 1 long_tcp 1 9 (Err (12 at 1 byte 52)) 0 []
    ∷ form-of-packet "family 1, a record of 256 bytes" 1 one_long (replicate 3 7) (Err (12 at 0 byte 10)) (replicate 3 7)
    ∷ form-of-packet "family 2, a record of 256 bytes" 2 one_long (replicate 256 7) (Ok 256) one_long_form
    ∷ packet-of-form "family 1, a record of 256 bytes" 1 one_long_form (replicate 3 7) (Err (17 at 0)) (replicate 3 7)
    ∷ packet-of-form "family 2, a record of 256 bytes" 2 one_long_form (replicate 271 7) (Ok 271) one_long
    ∷ []

-- more values than a total of one byte can say: 9, whatever it says, and 17
unfoldable pub too_many_values : List Row
too_many_values =
    read-packet "codec 8, 256 values, total 0" 2 (tcp 0x02 0x59 (field 0x08 1 (many8 0x00)) 0x22 0xD2) (Err (9 at 0 byte 10))
    ∷ read-packet "codec 8, 256 values, total 255" 2 (tcp 0x02 0x59 (field 0x08 1 (many8 0xFF)) 0x3E 0x67) (Err (9 at 0 byte 10))
    ∷ read-packet "codec 16, 256 values, total 0" 2 (tcp 0x03 0x5B (field 0x10 1 (many16 0x00)) 0xC0 0xA6) (Err (9 at 0 byte 10))
    ∷ packet-of-form "codec 8, 256 values" 2 (many_form 0x08 0x00) (replicate 3 7) (Err (17 at 0)) (replicate 3 7)
    ∷ packet-of-form "codec 16, 256 values" 2 (many_form 0x10 0x05) (replicate 3 7) (Err (17 at 0)) (replicate 3 7)
    ∷ []

abbrev pub families : List (List Row)
families = unknown_families ∷ family_limits ∷ too_many_values ∷ []

abbrev pub AsTheFamiliesAllow : Type 0
AsTheFamiliesAllow = EachAsSaid families
