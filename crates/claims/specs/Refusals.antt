-- Refusals: every number that a call can give, with its index, in the paper's order. A label names the fault, or the faults of which the first counts.
use Rattle.std.specs.Prelude.{Err, true, false, List, [], ◌∷◌, ◌++◌, take, set, replicate}
use Rattle.claims.specs.Rows.{Row, EachAsSaid, ◌at◌, ◌at◌byte◌}
use Rattle.claims.specs.Calls.{read-packet, read-datagram, read-login, read-command, record-in-packet, record-in-datagram, value-in-packet, value-in-datagram, id-in-packet, id-in-datagram, last-known, acknowledge-packet, acknowledge-datagram, answer-login, write-command, form-of-packet, form-of-datagram, packet-of-form, contents-of-packet, contents-of-datagram}
use Rattle.claims.specs.Packets.{field, tcp, unit, login, udp, plain, long, two, two16, two_tcp, two_udp, broken_tcp, broken_udp, newer, older, getio_field, getver_field, hello, hello_field}
use Rattle.claims.specs.BenchSheet.{sample, sample_form, getio}

-- read_packet: 1, 2, 3, 4, 5, 6, 7, then the walk
unfoldable pub packet_refusals : List Row
packet_refusals =
    read-packet "under 8 bytes" 2 (take 7 two_tcp) (Err (1 at 0))
    ∷ read-packet "first byte" 2 (set two_tcp 0 0x01) (Err (2 at 0))
    ∷ read-packet "fourth byte, L 0" 2 (0x00 ∷ 0x00 ∷ 0x00 ∷ 0x01 ∷ 0x00 ∷ 0x00 ∷ 0x00 ∷ 0x00 ∷ []) (Err (2 at 0))
    ∷ read-packet "L 2" 2 (0x00 ∷ 0x00 ∷ 0x00 ∷ 0x00 ∷ 0x00 ∷ 0x00 ∷ 0x00 ∷ 0x02 ∷ []) (Err (3 at 0 byte 4))
    ∷ read-packet "L 1,269" 2 (0x00 ∷ 0x00 ∷ 0x00 ∷ 0x00 ∷ 0x00 ∷ 0x00 ∷ 0x04 ∷ 0xF5 ∷ []) (Err (3 at 0 byte 4))
    ∷ read-packet "L 1,268, no more bytes" 2 (0x00 ∷ 0x00 ∷ 0x00 ∷ 0x00 ∷ 0x00 ∷ 0x00 ∷ 0x04 ∷ 0xF4 ∷ []) (Err (4 at 0))
    ∷ read-packet "a byte too few" 2 (take 74 two_tcp) (Err (4 at 0))
    ∷ read-packet "a byte too many, CRC wrong" 2 (two_tcp ++ (0x00 ∷ [])) (Err (4 at 0))
    ∷ read-packet "CRC, lower byte" 2 (set two_tcp 74 0xB2) (Err (5 at 0 byte 71))
    ∷ read-packet "CRC, upper byte" 2 (set two_tcp 71 0x01) (Err (5 at 0 byte 71))
    ∷ read-packet "CRC wrong, codec too" 2 (set two_tcp 8 0x07) (Err (5 at 0 byte 71))
    ∷ read-packet "codec 07, counts 0" 2 (tcp 0x00 0x3F (set (set (set two 0 0x07) 1 0x00) 62 0x00) 0x34 0xFC) (Err (6 at 0 byte 8))
    ∷ read-packet "a message of codec 13" 2 hello (Err (6 at 0 byte 8))
    ∷ read-packet "a command" 2 (tcp 0x00 0x0D getio_field 0x00 0xCB) (Err (6 at 0 byte 8))
    ∷ read-packet "counts 0" 2 (tcp 0x00 0x3F (set (set two 1 0x00) 62 0x00) 0x37 0x33) (Err (7 at 0 byte 9))
    ∷ read-packet "counts 2 and 1, priority 3" 2 (tcp 0x00 0x3F (set (set two 10 0x03) 62 0x01) 0xBE 0xC0) (Err (7 at 0 byte 70))
    ∷ read-packet "no byte of a record" 2 (tcp 0x00 0x03 (0x08 ∷ 0x01 ∷ 0x01 ∷ []) 0x92 0x41) (Err (8 at 0 byte 10))
    ∷ read-packet "8-byte group, ID missing" 2 (tcp 0x00 0x3F (set two 61 0x01) 0x24 0xB2) (Err (8 at 1 byte 70))
    ∷ read-packet "third record missing" 2 (tcp 0x00 0x3F (set (set two 1 0x03) 62 0x03) 0xF5 0x73) (Err (8 at 2 byte 70))
    ∷ read-packet "left-over record, count 1" 2 (tcp 0x00 0x3F (set (set two 1 0x01) 62 0x01) 0x76 0xF3) (Err (8 at 1 byte 40))
    ∷ read-packet "left-over byte, count 2" 2 (tcp 0x00 0x40 (field 0x08 2 (plain ++ plain ++ (0x00 ∷ []))) 0x14 0x75) (Err (8 at 2 byte 70))
    ∷ read-packet "variable length up to the second count" 2 (tcp 0x00 0x32 (field 0x8E 1 (set (long 5 1) 41 0x06)) 0x91 0x2C) (Err (8 at 0 byte 52))
    ∷ read-packet "total 1, no value" 2 (tcp 0x00 0x3F (set two 57 0x01) 0x65 0xB2) (Err (9 at 1 byte 40))
    ∷ read-packet "total 2, a group cut short" 2 (tcp 0x00 0x3F (set (set two 57 0x02) 61 0x01) 0xC6 0xB3) (Err (8 at 1 byte 70))
    ∷ read-packet "priority 3" 2 broken_tcp (Err (10 at 1 byte 48))
    ∷ read-packet "priority 3, the rest missing" 2 (tcp 0x00 0x0C (field 0x08 1 (set (take 9 plain) 8 0x03)) 0xA8 0xB1) (Err (10 at 0 byte 18))
    ∷ read-packet "generation 8" 2 (tcp 0x00 0x43 (set two16 60 0x08) 0x4C 0x37) (Err (11 at 1 byte 68))
    ∷ read-packet "256 bytes" 1 (tcp 0x01 0x2D (field 0x8E 2 (long 0 1 ++ long 214 1)) 0xB4 0xA7) (Err (12 at 1 byte 52))
    ∷ []

-- read_datagram: 1, 3, 4, 15, 6, 7, then the walk
unfoldable pub datagram_refusals : List Row
datagram_refusals =
    read-datagram "25 bytes" 2 (udp 0x00 0x17 (0x08 ∷ 0x01 ∷ [])) (Err (1 at 0))
    ∷ read-datagram "1,281 bytes, length 0" 2 (udp 0x00 0x00 (replicate 1258 0)) (Err (3 at 0))
    ∷ read-datagram "1,280 bytes, codec 00" 2 (udp 0x04 0xFE (replicate 1257 0)) (Err (6 at 0 byte 23))
    ∷ read-datagram "length 1 too small, IMEI length 14" 2 (set (set two_udp 1 0x53) 7 0x0E) (Err (4 at 0))
    ∷ read-datagram "length 1 too large" 2 (set two_udp 1 0x55) (Err (4 at 0))
    ∷ read-datagram "IMEI length 14" 2 (set two_udp 7 0x0E) (Err (15 at 0 byte 6))
    ∷ read-datagram "first digit 2F" 2 (set two_udp 8 0x2F) (Err (15 at 0 byte 8))
    ∷ read-datagram "last digit 3A, codec 07" 2 (set (set two_udp 22 0x3A) 23 0x07) (Err (15 at 0 byte 22))
    ∷ read-datagram "codec 0C, counts 0" 2 (udp 0x00 0x54 (set (set (set two 0 0x0C) 1 0x00) 62 0x00)) (Err (6 at 0 byte 23))
    ∷ read-datagram "counts 0" 2 (udp 0x00 0x54 (set (set two 1 0x00) 62 0x00)) (Err (7 at 0 byte 24))
    ∷ read-datagram "counts 2 and 1, priority 3" 2 (udp 0x00 0x54 (set (set two 10 0x03) 62 0x01)) (Err (7 at 0 byte 85))
    ∷ read-datagram "no byte of a record" 2 (udp 0x00 0x18 (0x08 ∷ 0x01 ∷ 0x01 ∷ [])) (Err (8 at 0 byte 25))
    ∷ read-datagram "8-byte group, ID missing" 2 (udp 0x00 0x54 (set two 61 0x01)) (Err (8 at 1 byte 85))
    ∷ read-datagram "third record missing" 2 (udp 0x00 0x54 (set (set two 1 0x03) 62 0x03)) (Err (8 at 2 byte 85))
    ∷ read-datagram "left-over record, count 1" 2 (udp 0x00 0x54 (set (set two 1 0x01) 62 0x01)) (Err (8 at 1 byte 55))
    ∷ read-datagram "left-over byte, count 2" 2 (udp 0x00 0x55 (field 0x08 2 (plain ++ plain ++ (0x00 ∷ [])))) (Err (8 at 2 byte 85))
    ∷ read-datagram "total 1, no value" 2 (udp 0x00 0x54 (set two 57 0x01)) (Err (9 at 1 byte 55))
    ∷ read-datagram "priority 3" 2 broken_udp (Err (10 at 1 byte 63))
    ∷ read-datagram "generation 8" 2 (udp 0x00 0x58 (set two16 60 0x08)) (Err (11 at 1 byte 83))
    ∷ read-datagram "256 bytes" 1 (udp 0x01 0x42 (field 0x8E 2 (long 0 1 ++ long 214 1))) (Err (12 at 1 byte 67))
    ∷ read-datagram "256 bytes, total 0" 2 (udp 0x01 0x42 (field 0x8E 2 (long 0 1 ++ long 214 0))) (Err (9 at 1 byte 67))
    ∷ []

-- read_login: 1, 4, 15
unfoldable pub login_refusals : List Row
login_refusals =
    read-login "16 bytes, length 14" (set (take 16 login) 1 0x0E) (Err (1 at 0))
    ∷ read-login "18 bytes, length 14" (set (login ++ (0x30 ∷ [])) 1 0x0E) (Err (4 at 0))
    ∷ read-login "length 14" (set login 1 0x0E) (Err (15 at 0))
    ∷ read-login "first digit 2F" (set login 2 0x2F) (Err (15 at 0 byte 2))
    ∷ read-login "last digit 3A" (set login 16 0x3A) (Err (15 at 0 byte 16))
    ∷ []

-- read_command: 1 to 7, then type (8, 13), size (8, 14), IMEI (15), text with type 11 (14)
unfoldable pub command_refusals : List Row
command_refusals =
    read-command "under 8 bytes" 2 (take 7 getio) (Err (1 at 0)) []
    ∷ read-command "first byte" 2 (set getio 0 0x01) (Err (2 at 0)) []
    ∷ read-command "L 1,269" 2 (0x00 ∷ 0x00 ∷ 0x00 ∷ 0x00 ∷ 0x00 ∷ 0x00 ∷ 0x04 ∷ 0xF5 ∷ []) (Err (3 at 0 byte 4)) []
    ∷ read-command "L 1,268, no more bytes" 2 (0x00 ∷ 0x00 ∷ 0x00 ∷ 0x00 ∷ 0x00 ∷ 0x00 ∷ 0x04 ∷ 0xF4 ∷ []) (Err (4 at 0)) []
    ∷ read-command "CRC, lower byte" 2 (set getio 24 0xCA) (Err (5 at 0 byte 21)) []
    ∷ read-command "a data packet" 2 two_tcp (Err (6 at 0 byte 8)) []
    ∷ read-command "first quantity 2" 2 (tcp 0x00 0x0D (set getio_field 1 0x02) 0x04 0xCF) (Err (7 at 0 byte 9)) []
    ∷ read-command "second quantity 0, type 07" 2 (tcp 0x00 0x0D (set (set getio_field 2 0x07) 12 0x00) 0x78 0x01) (Err (7 at 0 byte 20)) []
    ∷ read-command "no type" 2 (tcp 0x00 0x03 (0x0C ∷ 0x01 ∷ 0x01 ∷ []) 0x53 0x00) (Err (8 at 0 byte 10)) []
    ∷ read-command "size cut short" 2 (tcp 0x00 0x07 (0x0C ∷ 0x01 ∷ 0x05 ∷ 0x00 ∷ 0x00 ∷ 0x00 ∷ 0x01 ∷ []) 0x11 0xC0) (Err (8 at 0 byte 11)) []
    ∷ read-command "type 07, no size" 2 (tcp 0x00 0x04 (0x0C ∷ 0x01 ∷ 0x07 ∷ 0x01 ∷ []) 0x60 0x91) (Err (13 at 0 byte 10)) []
    ∷ read-command "type 11 in codec 12" 2 (tcp 0x00 0x0D (set getio_field 2 0x11) 0xF0 0x8A) (Err (13 at 0 byte 10)) []
    ∷ read-command "size 1 too large" 2 (tcp 0x00 0x0D (set getio_field 6 0x06) 0x00 0xF8) (Err (14 at 0 byte 11)) []
    ∷ read-command "size 1 too small" 2 (tcp 0x00 0x0D (set getio_field 6 0x04) 0xC0 0xDB) (Err (14 at 0 byte 11)) []
    ∷ read-command "codec 14, size 7" 2 (tcp 0x00 0x0F (0x0E ∷ 0x01 ∷ 0x05 ∷ 0x00 ∷ 0x00 ∷ 0x00 ∷ 0x07 ∷ 0x03 ∷ 0x52 ∷ 0x09 ∷ 0x30 ∷ 0x81 ∷ 0x45 ∷ 0x22 ∷ 0x01 ∷ []) 0x34 0x37) (Err (14 at 0 byte 11)) []
    ∷ read-command "size 1 too small, first digit 1" 2 (tcp 0x00 0x16 (set (set getver_field 6 0x0D) 7 0x13) 0x2F 0x91) (Err (14 at 0 byte 11)) []
    ∷ read-command "first digit 1" 2 (tcp 0x00 0x16 (set getver_field 7 0x13) 0xDE 0xD1) (Err (15 at 0 byte 15)) []
    ∷ read-command "a digit A" 2 (tcp 0x00 0x16 (set getver_field 10 0x3A) 0xCA 0xD9) (Err (15 at 0 byte 18)) []
    ∷ read-command "last digit A, type 11, text" 2 (tcp 0x00 0x16 (set (set getver_field 2 0x11) 14 0x5A) 0x76 0xB3) (Err (15 at 0 byte 22)) []
    ∷ read-command "type 11, text" 2 (tcp 0x00 0x16 (set getver_field 2 0x11) 0xC5 0xF2) (Err (14 at 0 byte 23)) []
    ∷ read-command "codec 13, CRC, lower byte" 2 (set hello 40 0x49) (Err (5 at 0 byte 37)) []
    ∷ read-command "codec 13, second quantity 0, type 11" 2 (tcp 0x00 0x1D (set (set hello_field 2 0x11) 28 0x00) 0x16 0x88) (Err (7 at 0 byte 36)) []
    ∷ read-command "codec 13, type 11" 2 (tcp 0x00 0x1D (set hello_field 2 0x11) 0xD6 0x49) (Err (13 at 0 byte 10)) []
    ∷ read-command "codec 13, size cut short" 2 (tcp 0x00 0x07 (0x0D ∷ 0x01 ∷ 0x06 ∷ 0x00 ∷ 0x00 ∷ 0x00 ∷ 0x01 ∷ []) 0xD1 0x94) (Err (8 at 0 byte 11)) []
    ∷ read-command "codec 13, no time, size 0" 2 (tcp 0x00 0x08 (0x0D ∷ 0x01 ∷ 0x06 ∷ 0x00 ∷ 0x00 ∷ 0x00 ∷ 0x00 ∷ 0x01 ∷ []) 0xFF 0x10) (Err (14 at 0 byte 11)) []
    ∷ read-command "codec 13, size 3" 2 (tcp 0x00 0x0B (0x0D ∷ 0x01 ∷ 0x06 ∷ 0x00 ∷ 0x00 ∷ 0x00 ∷ 0x03 ∷ 0x64 ∷ 0xE8 ∷ 0x32 ∷ 0x01 ∷ []) 0x6D 0x4E) (Err (14 at 0 byte 11)) []
    ∷ read-command "codec 13, the size without the time" 2 (tcp 0x00 0x1D (set hello_field 6 0x11) 0xC6 0x7A) (Err (14 at 0 byte 11)) []
    ∷ read-command "codec 13, size 1 too large" 2 (tcp 0x00 0x1D (set hello_field 6 0x16) 0xD0 0x1C) (Err (14 at 0 byte 11)) []
    ∷ []

-- look-ups: the input's own refusal, else 16
unfoldable pub lookup_refusals : List Row
lookup_refusals =
    record-in-packet "refused packet" 2 broken_tcp 9 (Err (10 at 1 byte 48))
    ∷ record-in-packet "no such record" 2 two_tcp 2 (Err (16 at 0))
    ∷ value-in-packet "refused packet" 2 broken_tcp 9 9 (Err (10 at 1 byte 48)) []
    ∷ value-in-packet "no such record" 2 two_tcp 2 0 (Err (16 at 0)) []
    ∷ value-in-packet "no such value, the next record has one" 2 newer 0 1 (Err (16 at 0)) []
    ∷ id-in-packet "refused packet" 2 broken_tcp 9 0x0143 (Err (10 at 1 byte 48)) 0 []
    ∷ id-in-packet "no such record" 2 two_tcp 2 0x0143 (Err (16 at 0)) 0 []
    ∷ id-in-packet "no such ID, the next record has it" 2 newer 0 0x0142 (Err (16 at 0)) 1 []
    ∷ id-in-packet "no such ID, the record before has it" 2 newer 1 0x0143 (Err (16 at 0)) 5 []
    ∷ id-in-packet "a record without values" 2 two_tcp 1 0x0143 (Err (16 at 0)) 0 []
    ∷ record-in-datagram "refused datagram" 2 broken_udp 9 (Err (10 at 1 byte 63))
    ∷ record-in-datagram "no such record" 2 two_udp 2 (Err (16 at 0))
    ∷ value-in-datagram "refused datagram" 2 broken_udp 9 9 (Err (10 at 1 byte 63)) []
    ∷ value-in-datagram "no such value" 2 two_udp 1 0 (Err (16 at 0)) []
    ∷ id-in-datagram "refused datagram" 2 broken_udp 9 0x0143 (Err (10 at 1 byte 63)) 0 []
    ∷ id-in-datagram "no such ID" 2 sample 0 0x16 (Err (16 at 0)) 1 []
    ∷ last-known "newer refused, older too" 2 broken_tcp [] 0x0143 (Err (10 at 1 byte 48)) 0 []
    ∷ last-known "older refused" 2 newer broken_tcp 0x0143 (Err (10 at 1 byte 48)) 5 []
    ∷ last-known "in neither's last record" 2 newer older 0x0143 (Err (16 at 0)) 8 []
    ∷ last-known "the same packet twice" 2 newer newer 0x0143 (Err (16 at 0)) 10 []
    ∷ last-known "newer without values, older refused" 2 two_tcp broken_tcp 0x0143 (Err (10 at 1 byte 48)) 0 []
    ∷ []

-- writers: 18 last, and a refusal changes nothing
unfoldable pub writer_refusals : List Row
writer_refusals =
    acknowledge-packet "3 bytes lent" 2 two_tcp (replicate 3 7) (Err (18 at 0)) (replicate 3 7)
    ∷ acknowledge-packet "refused packet, 3 bytes lent" 2 broken_tcp (replicate 3 7) (Err (18 at 0)) (replicate 3 7)
    ∷ acknowledge-datagram "refused datagram" 2 broken_udp (replicate 8 7) (Err (10 at 1 byte 63)) (replicate 8 7)
    ∷ acknowledge-datagram "refused datagram, none lent" 2 (set two_udp 1 0x00) [] (Err (4 at 0)) []
    ∷ acknowledge-datagram "6 bytes lent" 2 two_udp (replicate 6 7) (Err (18 at 0)) (replicate 6 7)
    ∷ answer-login "none lent" login true [] (Err (18 at 0)) []
    ∷ answer-login "18 bytes, none lent" (login ++ (0x30 ∷ [])) false [] (Err (18 at 0)) []
    ∷ write-command "codec 08, type 07" 2 0x08 0x07 unit 0x64E83281 (0x78 ∷ []) (replicate 3 7) (Err (6 at 0)) (replicate 3 7)
    ∷ write-command "type 11 in codec 12, IMEI" 2 0x0C 0x11 unit 0x64E83281 (0x78 ∷ []) (replicate 3 7) (Err (13 at 0)) (replicate 3 7)
    ∷ write-command "type 07 in codec 14, no IMEI" 2 0x0E 0x07 [] 0x64E83281 (0x78 ∷ []) (replicate 3 7) (Err (13 at 0)) (replicate 3 7)
    ∷ write-command "codec 12, IMEI" 2 0x0C 0x05 unit 0x64E83281 (0x78 ∷ []) (replicate 3 7) (Err (15 at 0)) (replicate 3 7)
    ∷ write-command "codec 14, 14 digits" 2 0x0E 0x05 (take 14 unit) 0x64E83281 (0x78 ∷ []) (replicate 3 7) (Err (15 at 0)) (replicate 3 7)
    ∷ write-command "codec 14, a digit 3A, text with type 11" 2 0x0E 0x11 (set unit 14 0x3A) 0x64E83281 (0x78 ∷ []) (replicate 3 7) (Err (15 at 0)) (replicate 3 7)
    ∷ write-command "text with type 11" 2 0x0E 0x11 unit 0x64E83281 (0x78 ∷ []) (replicate 3 7) (Err (14 at 0)) (replicate 3 7)
    ∷ write-command "codec 12, 1,281 bytes" 2 0x0C 0x06 [] 0x64E83281 (replicate 1261 7) (replicate 3 7) (Err (14 at 0)) (replicate 3 7)
    ∷ write-command "codec 14, 1,281 bytes" 2 0x0E 0x06 unit 0x64E83281 (replicate 1253 7) (replicate 3 7) (Err (14 at 0)) (replicate 3 7)
    ∷ write-command "codec 12, 1,280 bytes" 2 0x0C 0x06 [] 0x64E83281 (replicate 1260 7) (replicate 3 7) (Err (18 at 0)) (replicate 3 7)
    ∷ write-command "codec 14, 1,280 bytes" 2 0x0E 0x06 unit 0x64E83281 (replicate 1252 7) (replicate 3 7) (Err (18 at 0)) (replicate 3 7)
    ∷ write-command "20 of 21 bytes lent" 2 0x0C 0x05 [] 0x64E83281 (0x78 ∷ []) (replicate 20 7) (Err (18 at 0)) (replicate 20 7)
    ∷ write-command "type 11 in codec 13, IMEI" 2 0x0D 0x11 unit 0x64E83281 (0x78 ∷ []) (replicate 3 7) (Err (13 at 0)) (replicate 3 7)
    ∷ write-command "codec 13, IMEI, 1,281 bytes" 2 0x0D 0x06 unit 0x64E83281 (replicate 1257 7) (replicate 3 7) (Err (15 at 0)) (replicate 3 7)
    ∷ write-command "codec 13, 1,281 bytes" 2 0x0D 0x06 [] 0x64E83281 (replicate 1257 7) (replicate 3 7) (Err (14 at 0)) (replicate 3 7)
    ∷ write-command "codec 13, 1,280 bytes" 2 0x0D 0x06 [] 0x64E83281 (replicate 1256 7) (replicate 3 7) (Err (18 at 0)) (replicate 3 7)
    ∷ write-command "codec 13, 24 of 25 bytes lent" 2 0x0D 0x05 [] 0x64E83281 (0x78 ∷ []) (replicate 24 7) (Err (18 at 0)) (replicate 24 7)
    ∷ form-of-packet "refused packet" 2 broken_tcp (replicate 3 7) (Err (10 at 1 byte 48)) (replicate 3 7)
    ∷ form-of-packet "a byte too few lent" 2 (tcp 0x00 0x21 (field 0x08 1 plain) 0xA3 0xFA) (replicate 35 7) (Err (18 at 0)) (replicate 35 7)
    ∷ form-of-datagram "refused datagram" 2 broken_udp (replicate 3 7) (Err (10 at 1 byte 63)) (replicate 3 7)
    ∷ form-of-datagram "a byte too few lent" 2 sample (replicate 42 7) (Err (18 at 0)) (replicate 42 7)
    ∷ packet-of-form "empty" 2 [] [] (Err (17 at 0)) []
    ∷ packet-of-form "the last byte missing" 2 (take 42 sample_form) (replicate 3 7) (Err (17 at 0)) (replicate 3 7)
    ∷ packet-of-form "a byte too many" 2 (sample_form ++ (0x00 ∷ [])) (replicate 3 7) (Err (17 at 0)) (replicate 3 7)
    ∷ packet-of-form "codec 0C" 2 (set sample_form 4 0x0C) (replicate 3 7) (Err (17 at 0)) (replicate 3 7)
    ∷ packet-of-form "priority 3" 2 (set sample_form 17 0x03) (replicate 3 7) (Err (17 at 0)) (replicate 3 7)
    ∷ packet-of-form "generation type in codec 8" 2 (set sample_form 35 0x01) (replicate 3 7) (Err (17 at 0)) (replicate 3 7)
    ∷ packet-of-form "a value of kind 2 with one byte" 2 (set sample_form 38 0x02) (replicate 3 7) (Err (17 at 0)) (replicate 3 7)
    ∷ packet-of-form "no record" 2 (take 5 sample_form) (replicate 3 7) (Err (17 at 0)) (replicate 3 7)
    ∷ packet-of-form "46 of 47 bytes lent" 2 sample_form (replicate 46 7) (Err (18 at 0)) (replicate 46 7)
    ∷ []

-- contents_of_packet: 1 to 7, the walk, 18; contents_of_datagram: 1, 3, 4, 15, 6, 7, the walk, 18. Three words hold no table
unfoldable pub contents_refusals : List Row
contents_refusals =
    contents-of-packet "under 8 bytes" 2 (take 7 two_tcp) (replicate 3 7) (Err (1 at 0)) (replicate 3 7)
    ∷ contents-of-packet "fourth byte, L 0" 2 (0x00 ∷ 0x00 ∷ 0x00 ∷ 0x01 ∷ 0x00 ∷ 0x00 ∷ 0x00 ∷ 0x00 ∷ []) (replicate 3 7) (Err (2 at 0)) (replicate 3 7)
    ∷ contents-of-packet "L 1,269" 2 (0x00 ∷ 0x00 ∷ 0x00 ∷ 0x00 ∷ 0x00 ∷ 0x00 ∷ 0x04 ∷ 0xF5 ∷ []) (replicate 3 7) (Err (3 at 0 byte 4)) (replicate 3 7)
    ∷ contents-of-packet "a byte too many, CRC wrong" 2 (two_tcp ++ (0x00 ∷ [])) (replicate 3 7) (Err (4 at 0)) (replicate 3 7)
    ∷ contents-of-packet "CRC wrong, priority 3" 2 (set broken_tcp 74 0x2B) (replicate 3 7) (Err (5 at 0 byte 71)) (replicate 3 7)
    ∷ contents-of-packet "codec 07, counts 0" 2 (tcp 0x00 0x3F (set (set (set two 0 0x07) 1 0x00) 62 0x00) 0x34 0xFC) (replicate 3 7) (Err (6 at 0 byte 8)) (replicate 3 7)
    ∷ contents-of-packet "counts 2 and 1, priority 3" 2 (tcp 0x00 0x3F (set (set two 10 0x03) 62 0x01) 0xBE 0xC0) (replicate 3 7) (Err (7 at 0 byte 70)) (replicate 3 7)
    ∷ contents-of-packet "total 2, a group cut short" 2 (tcp 0x00 0x3F (set (set two 57 0x02) 61 0x01) 0xC6 0xB3) (replicate 3 7) (Err (8 at 1 byte 70)) (replicate 3 7)
    ∷ contents-of-packet "total 1, no value" 2 (tcp 0x00 0x3F (set two 57 0x01) 0x65 0xB2) (replicate 3 7) (Err (9 at 1 byte 40)) (replicate 3 7)
    ∷ contents-of-packet "priority 3" 2 broken_tcp (replicate 3 7) (Err (10 at 1 byte 48)) (replicate 3 7)
    ∷ contents-of-packet "generation 8" 2 (tcp 0x00 0x43 (set two16 60 0x08) 0x4C 0x37) (replicate 3 7) (Err (11 at 1 byte 68)) (replicate 3 7)
    ∷ contents-of-packet "256 bytes" 1 (tcp 0x01 0x2D (field 0x8E 2 (long 0 1 ++ long 214 1)) 0xB4 0xA7) (replicate 3 7) (Err (12 at 1 byte 52)) (replicate 3 7)
    ∷ contents-of-packet "9 of 10 words lent" 2 two_tcp (replicate 9 7) (Err (18 at 0)) (replicate 9 7)
    ∷ contents-of-datagram "25 bytes" 2 (udp 0x00 0x17 (0x08 ∷ 0x01 ∷ [])) (replicate 3 7) (Err (1 at 0)) (replicate 3 7)
    ∷ contents-of-datagram "1,281 bytes, length 0" 2 (udp 0x00 0x00 (replicate 1258 0)) (replicate 3 7) (Err (3 at 0)) (replicate 3 7)
    ∷ contents-of-datagram "length 1 too small, IMEI length 14" 2 (set (set two_udp 1 0x53) 7 0x0E) (replicate 3 7) (Err (4 at 0)) (replicate 3 7)
    ∷ contents-of-datagram "last digit 3A, codec 07" 2 (set (set two_udp 22 0x3A) 23 0x07) (replicate 3 7) (Err (15 at 0 byte 22)) (replicate 3 7)
    ∷ contents-of-datagram "codec 0C, counts 0" 2 (udp 0x00 0x54 (set (set (set two 0 0x0C) 1 0x00) 62 0x00)) (replicate 3 7) (Err (6 at 0 byte 23)) (replicate 3 7)
    ∷ contents-of-datagram "counts 2 and 1, priority 3" 2 (udp 0x00 0x54 (set (set two 10 0x03) 62 0x01)) (replicate 3 7) (Err (7 at 0 byte 85)) (replicate 3 7)
    ∷ contents-of-datagram "left-over byte, count 2" 2 (udp 0x00 0x55 (field 0x08 2 (plain ++ plain ++ (0x00 ∷ [])))) (replicate 3 7) (Err (8 at 2 byte 85)) (replicate 3 7)
    ∷ contents-of-datagram "256 bytes, total 0" 2 (udp 0x01 0x42 (field 0x8E 2 (long 0 1 ++ long 214 0))) (replicate 3 7) (Err (9 at 1 byte 67)) (replicate 3 7)
    ∷ contents-of-datagram "priority 3, none lent" 2 broken_udp [] (Err (10 at 1 byte 63)) []
    ∷ contents-of-datagram "generation 8" 2 (udp 0x00 0x58 (set two16 60 0x08)) (replicate 3 7) (Err (11 at 1 byte 83)) (replicate 3 7)
    ∷ contents-of-datagram "256 bytes" 1 (udp 0x01 0x42 (field 0x8E 2 (long 0 1 ++ long 214 1))) (replicate 3 7) (Err (12 at 1 byte 67)) (replicate 3 7)
    ∷ contents-of-datagram "6 of 7 words lent" 2 sample (replicate 6 7) (Err (18 at 0)) (replicate 6 7)
    ∷ []

abbrev pub refusals : List (List Row)
refusals = packet_refusals ∷ datagram_refusals ∷ login_refusals ∷ command_refusals ∷ lookup_refusals ∷ writer_refusals ∷ contents_refusals ∷ []

abbrev pub AsThePaperRefuses : Type 0
AsThePaperRefuses = EachAsSaid refusals
