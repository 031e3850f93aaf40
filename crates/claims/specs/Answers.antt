-- Answers: what each call gives of an input that it accepts, the paper's layouts read by hand.
use Rattle.std.specs.Prelude.{Ok, ℕ, zero, suc, true, false, List, [], ◌∷◌, ◌++◌, set, replicate, drop, ℤ, pos, negsuc}
use Rattle.datagram.specs.declared.Header.{Header}
use Rattle.element.specs.declared.RecordFields.{RecordFields}
use Rattle.claims.specs.Rows.{Row, EachAsSaid}
use Rattle.claims.specs.Calls.{read-packet, read-datagram, read-login, read-command, record-in-packet, record-in-datagram, value-in-packet, value-in-datagram, id-in-packet, id-in-datagram, last-known, acknowledge-packet, acknowledge-datagram, answer-login, write-command, form-of-packet, form-of-datagram, packet-of-form, contents-of-packet, contents-of-datagram}
use Rattle.claims.specs.Packets.{field, tcp, imei, login, udp, long, two_tcp, two_udp, broken_tcp, newer, newer_udp, older, getver, nack, hello, hello_field, hello_text, getio_field}
use Rattle.claims.specs.BenchSheet.{sample, sample_form, getio}

-- a number below 0
abbrev pub minus : ℕ → ℤ
minus zero = pos zero
minus (suc n) = negsuc n

abbrev pub header : Header
header = record { packet = 0xCAFE; unused = 0x01; avl = 0x05; imei = 123456789012345 }

-- the forms of `newer` and `older`, an entry a line
abbrev pub newer_form : List ℕ
newer_form =
    0x01 ∷ 0x00 ∷ 0x64 ∷ 0x00 ∷ 0x10
    ∷ 0x1B ∷ 0x00 ∷ 0x65 ∷ 0x00 ∷ 0x30 ∷ 0x83 ∷ 0xC7 ∷ 0xDB ∷ 0x6B ∷ 0x01 ∷ 0x00 ∷ 0x00 ∷ 0x01 ∷ 0x80 ∷ 0xCA ∷ 0x9C ∷ 0x20 ∷ 0xFF ∷ 0xFF ∷ 0xFF ∷ 0xFF ∷ 0x64 ∷ 0x00 ∷ 0xB4 ∷ 0x00 ∷ 0x07 ∷ 0x05 ∷ 0x00 ∷ 0x0B ∷ 0x00 ∷ 0x01
    ∷ 0x03 ∷ 0x00 ∷ 0x01 ∷ 0x00 ∷ 0x43 ∷ 0x01 ∷ 0x5A
    ∷ 0x1B ∷ 0x00 ∷ 0x65 ∷ 0x00 ∷ 0x18 ∷ 0x87 ∷ 0xC7 ∷ 0xDB ∷ 0x6B ∷ 0x01 ∷ 0x00 ∷ 0x00 ∷ 0x02 ∷ 0x80 ∷ 0x0F ∷ 0x05 ∷ 0xFD ∷ 0xE0 ∷ 0x5E ∷ 0xF8 ∷ 0xFF ∷ 0x9C ∷ 0xFF ∷ 0x02 ∷ 0x01 ∷ 0x0B ∷ 0x03 ∷ 0x02 ∷ 0x81 ∷ 0x01 ∷ 0x07
    ∷ 0x03 ∷ 0x00 ∷ 0x01 ∷ 0x00 ∷ 0x15 ∷ 0x01 ∷ 0xA1
    ∷ 0x03 ∷ 0x00 ∷ 0x01 ∷ 0x00 ∷ 0x81 ∷ 0x01 ∷ 0xA2
    ∷ 0x04 ∷ 0x00 ∷ 0x02 ∷ 0x00 ∷ 0x42 ∷ 0x01 ∷ 0xB1 ∷ 0xB2
    ∷ 0x06 ∷ 0x00 ∷ 0x04 ∷ 0x00 ∷ 0x15 ∷ 0x01 ∷ 0xC1 ∷ 0xC2 ∷ 0xC3 ∷ 0xC4
    ∷ 0x0A ∷ 0x00 ∷ 0x08 ∷ 0x00 ∷ 0x4E ∷ 0x01 ∷ 0xD1 ∷ 0xD2 ∷ 0xD3 ∷ 0xD4 ∷ 0xD5 ∷ 0xD6 ∷ 0xD7 ∷ 0xD8 ∷ []

abbrev pub older_form : List ℕ
older_form =
    0x01 ∷ 0x00 ∷ 0x64 ∷ 0x00 ∷ 0x8E
    ∷ 0x1B ∷ 0x00 ∷ 0x65 ∷ 0x00 ∷ 0x30 ∷ 0x83 ∷ 0xC7 ∷ 0xDB ∷ 0x6B ∷ 0x01 ∷ 0x00 ∷ 0x00 ∷ 0x01 ∷ 0x80 ∷ 0xCA ∷ 0x9C ∷ 0x20 ∷ 0xFF ∷ 0xFF ∷ 0xFF ∷ 0xFF ∷ 0x64 ∷ 0x00 ∷ 0xB4 ∷ 0x00 ∷ 0x07 ∷ 0x05 ∷ 0x00 ∷ 0x01 ∷ 0x00 ∷ 0x00
    ∷ 0x03 ∷ 0x00 ∷ 0x01 ∷ 0x00 ∷ 0x15 ∷ 0x00 ∷ 0x03
    ∷ 0x02 ∷ 0x00 ∷ 0x09 ∷ 0x00 ∷ 0x01 ∷ 0x01
    ∷ 0x05 ∷ 0x00 ∷ 0x09 ∷ 0x00 ∷ 0x42 ∷ 0x01 ∷ 0x61 ∷ 0x62 ∷ 0x63 ∷ []

-- the tables of contents of `sample`, `two_udp`, `newer` and `older`: a line for the packet, for each record, and for its values. Fields from the highest down:
-- AVL packet ID and unused byte, packet ID, count, codec; IMEI
-- time; longitude, latitude; generation type and priority, altitude, angle, satellites, speed; elements, size, start, event ID
-- a value's size, offset, kind, ID
abbrev pub sample_contents : List ℕ
sample_contents =
    0x0501_CAFE_0001_0008 ∷ 123456789012345
    ∷ 0x0000_0000_0000_03E8 ∷ 0xFFFF_FFFF_209C_CA80 ∷ 0x01_0064_0000_07_0005 ∷ 0x0001_0020_0019_0000
    ∷ 0x0001_0035_0001_0015 ∷ []

abbrev pub two_contents : List ℕ
two_contents =
    0x0501_CAFE_0002_0008 ∷ 123456789012345
    ∷ 0x0000_016B_DBC7_8330 ∷ 0x209C_CA80_FFFF_FFFF ∷ 0x01_0064_00B4_07_0005 ∷ 0x0000_001E_0019_0000
    ∷ 0x0000_016B_DBC7_8330 ∷ 0x209C_CA80_FFFF_FFFF ∷ 0x01_0064_00B4_07_0005 ∷ 0x0000_001E_0037_0000 ∷ []

abbrev pub newer_contents : List ℕ
newer_contents =
    0x0000_0000_0002_0010 ∷ 0
    ∷ 0x0000_016B_DBC7_8330 ∷ 0x209C_CA80_FFFF_FFFF ∷ 0x11_0064_00B4_07_0005 ∷ 0x0001_0023_000A_000B
    ∷ 0x0001_0029_0001_0143
    ∷ 0x0000_016B_DBC7_8718 ∷ 0xFD05_0F80_FFF8_5EE0 ∷ 0x72_FF9C_0102_0B_0203 ∷ 0x0005_003A_002D_0181
    ∷ 0x0001_004C_0001_0115 ∷ 0x0001_004F_0001_0181 ∷ 0x0002_0053_0002_0142 ∷ 0x0004_0058_0004_0115 ∷ 0x0008_005F_0008_014E ∷ []

abbrev pub older_contents : List ℕ
older_contents =
    0x0000_0000_0001_008E ∷ 0
    ∷ 0x0000_016B_DBC7_8330 ∷ 0x209C_CA80_FFFF_FFFF ∷ 0x01_0064_00B4_07_0005 ∷ 0x0003_0034_000A_0001
    ∷ 0x0001_002A_0001_0015 ∷ 0x0000_0037_0009_0101 ∷ 0x0003_003B_0009_0142 ∷ []

-- the fields of the records `full16`, `one16`, `varied`, and of the bench sheet's sample
abbrev pub full_fields : RecordFields
full_fields =
    record {
      timestamp = 1562760415000;
      priority = 2;
      longitude = minus 50000000;
      latitude = minus 500000;
      altitude = minus 100;
      angle = 258;
      satellites = 11;
      speed = 515;
      event = 385;
      generation = 7;
      elements = 5;
    }

abbrev pub one_fields : RecordFields
one_fields =
    record {
      timestamp = 1562760414000;
      priority = 1;
      longitude = pos 547146368;
      latitude = minus 1;
      altitude = pos 100;
      angle = 180;
      satellites = 7;
      speed = 5;
      event = 11;
      generation = 1;
      elements = 1;
    }

abbrev pub varied_fields : RecordFields
varied_fields =
    record {
      timestamp = 1562760414000;
      priority = 1;
      longitude = pos 547146368;
      latitude = minus 1;
      altitude = pos 100;
      angle = 180;
      satellites = 7;
      speed = 5;
      event = 1;
      generation = 0;
      elements = 3;
    }

abbrev pub sample_fields : RecordFields
sample_fields =
    record {
      timestamp = 1000;
      priority = 1;
      longitude = minus 1;
      latitude = pos 547146368;
      altitude = pos 100;
      angle = 0;
      satellites = 7;
      speed = 5;
      event = 0;
      generation = 0;
      elements = 1;
    }

-- what was read
unfoldable pub readings : List Row
readings =
    read-packet "codec 8" 2 two_tcp (Ok (record { codec = 0x08; count = 2 }))
    ∷ read-packet "codec 16" 2 newer (Ok (record { codec = 0x10; count = 2 }))
    ∷ read-packet "codec 8E" 2 older (Ok (record { codec = 0x8E; count = 1 }))
    ∷ read-datagram "codec 8" 2 two_udp (Ok (record { payload = record { codec = 0x08; count = 2 }; header = header }))
    ∷ read-datagram "family 1, a record of 255 bytes" 1 (udp 0x01 0x17 (field 0x8E 1 (long 213 1))) (Ok (record { payload = record { codec = 0x8E; count = 1 }; header = header }))
    ∷ read-login "login" login (Ok 123456789012345)
    ∷ read-command "codec 12" 2 getio (Ok (record { codec = 0x0C; kind = 0x05; imei = 0; time = 0; offset = 15; size = 5 })) (0x67 ∷ 0x65 ∷ 0x74 ∷ 0x69 ∷ 0x6F ∷ [])
    ∷ read-command "codec 12, type 06, no text" 2 (tcp 0x00 0x08 (0x0C ∷ 0x01 ∷ 0x06 ∷ 0x00 ∷ 0x00 ∷ 0x00 ∷ 0x00 ∷ 0x01 ∷ []) 0x33 0xD1) (Ok (record { codec = 0x0C; kind = 0x06; imei = 0; time = 0; offset = 15; size = 0 })) []
    ∷ read-command "codec 13" 2 hello (Ok (record { codec = 0x0D; kind = 0x06; imei = 0; time = 0x64E83281; offset = 19; size = 17 })) hello_text
    ∷ read-command "codec 13, one more in the time" 2 (tcp 0x00 0x1D (set hello_field 10 0x82) 0x71 0x0C) (Ok (record { codec = 0x0D; kind = 0x06; imei = 0; time = 0x64E83282; offset = 19; size = 17 })) hello_text
    ∷ read-command "codec 13, type 05, no text" 2 (tcp 0x00 0x0C (0x0D ∷ 0x01 ∷ 0x05 ∷ 0x00 ∷ 0x00 ∷ 0x00 ∷ 0x04 ∷ 0xFF ∷ 0xFF ∷ 0xFF ∷ 0xFF ∷ 0x01 ∷ []) 0xBB 0x6C) (Ok (record { codec = 0x0D; kind = 0x05; imei = 0; time = 0xFFFFFFFF; offset = 19; size = 0 })) []
    ∷ read-command "codec 13 in a command of codec 12" 2 (tcp 0x00 0x0D (set getio_field 0 0x0D) 0x81 0xC9) (Ok (record { codec = 0x0D; kind = 0x05; imei = 0; time = 0x67657469; offset = 19; size = 1 })) (0x6F ∷ [])
    ∷ read-command "codec 14" 2 getver (Ok (record { codec = 0x0E; kind = 0x05; imei = 352093081452251; time = 0; offset = 23; size = 6 })) (0x67 ∷ 0x65 ∷ 0x74 ∷ 0x76 ∷ 0x65 ∷ 0x72 ∷ [])
    ∷ read-command "codec 14, type 11" 2 nack (Ok (record { codec = 0x0E; kind = 0x11; imei = 352093081452251; time = 0; offset = 23; size = 0 })) []
    ∷ []

-- what was looked up
unfoldable pub lookups : List Row
lookups =
    record-in-packet "codec 16" 2 newer 1 (Ok full_fields)
    ∷ record-in-packet "codec 16, the record before" 2 newer 0 (Ok one_fields)
    ∷ record-in-packet "codec 8E" 2 older 0 (Ok varied_fields)
    ∷ record-in-datagram "codec 16" 2 newer_udp 1 (Ok full_fields)
    ∷ record-in-datagram "codec 8" 2 sample 0 (Ok sample_fields)
    ∷ value-in-packet "4 bytes" 2 newer 1 3 (Ok (record { id = 0x0115; kind = 4; offset = 88; size = 4 })) (0xC1 ∷ 0xC2 ∷ 0xC3 ∷ 0xC4 ∷ [])
    ∷ value-in-packet "variable, empty" 2 older 0 1 (Ok (record { id = 0x0101; kind = 9; offset = 55; size = 0 })) []
    ∷ value-in-packet "variable" 2 older 0 2 (Ok (record { id = 0x0142; kind = 9; offset = 59; size = 3 })) (0x61 ∷ 0x62 ∷ 0x63 ∷ [])
    ∷ id-in-packet "an ID that occurs twice" 2 newer 1 0x0115 (Ok (record { id = 0x0115; kind = 1; offset = 76; size = 1 })) 1 (0xA1 ∷ [])
    ∷ id-in-packet "the second of its group" 2 newer 1 0x0181 (Ok (record { id = 0x0181; kind = 1; offset = 79; size = 1 })) 2 (0xA2 ∷ [])
    ∷ id-in-packet "the first of the second group" 2 newer 1 0x0142 (Ok (record { id = 0x0142; kind = 2; offset = 83; size = 2 })) 3 (0xB1 ∷ 0xB2 ∷ [])
    ∷ id-in-packet "variable, the last of the record" 2 older 0 0x0142 (Ok (record { id = 0x0142; kind = 9; offset = 59; size = 3 })) 3 (0x61 ∷ 0x62 ∷ 0x63 ∷ [])
    ∷ value-in-datagram "codec 8" 2 sample 0 0 (Ok (record { id = 0x0015; kind = 1; offset = 53; size = 1 })) (0x03 ∷ [])
    ∷ value-in-datagram "1 byte" 2 newer_udp 1 0 (Ok (record { id = 0x0115; kind = 1; offset = 91; size = 1 })) (0xA1 ∷ [])
    ∷ value-in-datagram "1 byte, the second" 2 newer_udp 1 1 (Ok (record { id = 0x0181; kind = 1; offset = 94; size = 1 })) (0xA2 ∷ [])
    ∷ value-in-datagram "2 bytes" 2 newer_udp 1 2 (Ok (record { id = 0x0142; kind = 2; offset = 98; size = 2 })) (0xB1 ∷ 0xB2 ∷ [])
    ∷ value-in-datagram "4 bytes" 2 newer_udp 1 3 (Ok (record { id = 0x0115; kind = 4; offset = 103; size = 4 })) (0xC1 ∷ 0xC2 ∷ 0xC3 ∷ 0xC4 ∷ [])
    ∷ value-in-datagram "8 bytes" 2 newer_udp 1 4 (Ok (record { id = 0x014E; kind = 8; offset = 110; size = 8 })) (0xD1 ∷ 0xD2 ∷ 0xD3 ∷ 0xD4 ∷ 0xD5 ∷ 0xD6 ∷ 0xD7 ∷ 0xD8 ∷ [])
    ∷ value-in-datagram "the record before" 2 newer_udp 0 0 (Ok (record { id = 0x0143; kind = 1; offset = 56; size = 1 })) (0x5A ∷ [])
    ∷ id-in-datagram "an ID that occurs twice" 2 newer_udp 1 0x0115 (Ok (record { id = 0x0115; kind = 1; offset = 91; size = 1 })) 1 (0xA1 ∷ [])
    ∷ id-in-datagram "8 bytes" 2 newer_udp 1 0x014E (Ok (record { id = 0x014E; kind = 8; offset = 110; size = 8 })) 5 (0xD1 ∷ 0xD2 ∷ 0xD3 ∷ 0xD4 ∷ 0xD5 ∷ 0xD6 ∷ 0xD7 ∷ 0xD8 ∷ [])
    ∷ last-known "in both" 2 newer older 0x0142 (Ok (record { older = false; value = (record { id = 0x0142; kind = 2; offset = 83; size = 2 }) })) 3 (0xB1 ∷ 0xB2 ∷ [])
    ∷ last-known "in the newer, older refused" 2 newer broken_tcp 0x0142 (Ok (record { older = false; value = (record { id = 0x0142; kind = 2; offset = 83; size = 2 }) })) 3 (0xB1 ∷ 0xB2 ∷ [])
    ∷ last-known "in the older" 2 newer older 0x0015 (Ok (record { older = true; value = (record { id = 0x0015; kind = 1; offset = 42; size = 1 }) })) 6 (0x03 ∷ [])
    ∷ last-known "variable and empty, in the older" 2 newer older 0x0101 (Ok (record { older = true; value = (record { id = 0x0101; kind = 9; offset = 55; size = 0 }) })) 7 []
    ∷ []

-- what was written
unfoldable pub writings : List Row
writings =
    acknowledge-packet "accepted" 2 newer (replicate 5 7) (Ok 4) (0x00 ∷ 0x00 ∷ 0x00 ∷ 0x02 ∷ 0x07 ∷ [])
    ∷ acknowledge-packet "refused" 2 broken_tcp (replicate 5 7) (Ok 4) (0x00 ∷ 0x00 ∷ 0x00 ∷ 0x00 ∷ 0x07 ∷ [])
    ∷ acknowledge-packet "a message of codec 13" 2 hello (replicate 5 7) (Ok 4) (0x00 ∷ 0x00 ∷ 0x00 ∷ 0x00 ∷ 0x07 ∷ [])
    ∷ acknowledge-datagram "accepted" 2 two_udp (replicate 8 7) (Ok 7) (0x00 ∷ 0x05 ∷ 0xCA ∷ 0xFE ∷ 0x01 ∷ 0x05 ∷ 0x02 ∷ 0x07 ∷ [])
    ∷ answer-login "known" login true (replicate 2 7) (Ok 1) (0x01 ∷ 0x07 ∷ [])
    ∷ answer-login "not known" login false (replicate 2 7) (Ok 1) (0x00 ∷ 0x07 ∷ [])
    ∷ answer-login "known, digit 3A" (set login 16 0x3A) true (replicate 2 7) (Ok 1) (0x00 ∷ 0x07 ∷ [])
    ∷ write-command "codec 12" 2 0x0C 0x05 [] 0x64E83281 (0x67 ∷ 0x65 ∷ 0x74 ∷ 0x69 ∷ 0x6F ∷ []) (replicate 26 7) (Ok 25) (getio ++ (7 ∷ []))
    ∷ write-command "codec 13" 2 0x0D 0x06 [] 0x64E83281 hello_text (replicate 42 7) (Ok 41) (hello ++ (7 ∷ []))
    ∷ write-command "codec 13, type 05, no text" 2 0x0D 0x05 [] 0xFFFFFFFF [] (replicate 24 7) (Ok 24) (tcp 0x00 0x0C (0x0D ∷ 0x01 ∷ 0x05 ∷ 0x00 ∷ 0x00 ∷ 0x00 ∷ 0x04 ∷ 0xFF ∷ 0xFF ∷ 0xFF ∷ 0xFF ∷ 0x01 ∷ []) 0xBB 0x6C)
    ∷ write-command "codec 14" 2 0x0E 0x05 imei 0x64E83281 (0x67 ∷ 0x65 ∷ 0x74 ∷ 0x76 ∷ 0x65 ∷ 0x72 ∷ []) (replicate 34 7) (Ok 34) getver
    ∷ write-command "codec 14, type 11" 2 0x0E 0x11 imei 0x64E83281 [] (replicate 28 7) (Ok 28) nack
    ∷ form-of-packet "codec 16" 2 newer (replicate 121 7) (Ok 120) (newer_form ++ (7 ∷ []))
    ∷ form-of-packet "codec 8E" 2 older (replicate 58 7) (Ok 58) older_form
    ∷ form-of-datagram "codec 16" 2 newer_udp (replicate 120 7) (Ok 120) newer_form
    ∷ packet-of-form "codec 16" 2 newer_form (replicate 109 7) (Ok 108) (newer ++ (7 ∷ []))
    ∷ packet-of-form "codec 8E" 2 older_form (replicate 67 7) (Ok 67) older
    ∷ packet-of-form "codec 8" 2 sample_form (replicate 47 7) (Ok 47) (tcp 0x00 0x23 (drop 23 sample) 0xB0 0xD2)
    ∷ contents-of-datagram "codec 8" 2 sample (replicate 8 7) (Ok 7) (sample_contents ++ (7 ∷ []))
    ∷ contents-of-datagram "codec 8, records without values" 2 two_udp (replicate 10 7) (Ok 10) two_contents
    ∷ contents-of-packet "codec 16" 2 newer (replicate 18 7) (Ok 16) (newer_contents ++ (7 ∷ 7 ∷ []))
    ∷ contents-of-packet "codec 8E" 2 older (replicate 9 7) (Ok 9) older_contents
    ∷ []

abbrev pub answers : List (List Row)
answers = readings ∷ lookups ∷ writings ∷ []

abbrev pub AsThePaperAnswers : Type 0
AsThePaperAnswers = EachAsSaid answers
