-- Lines for the billing desk: what each call writes and reads, the request's words read by hand (request 4).
use Rattle.std.specs.Prelude.{Err, Ok, ℕ, true, false, List, [], ◌∷◌, ◌++◌, set, replicate, ℤ, pos}
use Rattle.wire.specs.Answers.{Answer}
use Rattle.scan.specs.declared.LineFields.{LineFields}
use Rattle.scan.specs.declared.LineElement.{LineElement}
use Prim.Native.String.{String}
use Rattle.claims.specs.Rows.{Row, EachAsSaid, ◌at◌, ◌at◌byte◌}
use Rattle.claims.specs.Texts.{ascii}
use Rattle.claims.specs.Calls.{line-of-packet, line-of-datagram, lines-of-packet, lines-of-datagram, read-line, element-in-line, element-at}
use Rattle.claims.specs.Packets.{broken_tcp, newer, newer_udp}
use Rattle.claims.specs.BenchSheet.{sample}
use Rattle.claims.specs.DriverTags.{tags}
use Rattle.claims.specs.Answers.{minus}

-- text and the LF that ends a line
abbrev pub line : String → List ℕ
line s = ascii s ++ (10 ∷ [])

-- ---- answers

-- timestamp, longitude, latitude, speed, the number of elements, where the first starts
abbrev pub fields : ℕ → ℤ → ℤ → ℕ → ℕ → ℕ → Answer LineFields
fields timestamp longitude latitude speed elements start =
    Ok (record { timestamp = timestamp; longitude = longitude; latitude = latitude; speed = speed; elements = elements; start = start })

abbrev pub not_a_line : Answer LineFields
not_a_line = Err (20 at 0)

-- an ID, its number or how many bytes its tag has, where the next field starts
abbrev pub number : ℕ → ℕ → ℕ → Answer LineElement
number id n next = Ok (record { id = id; tag = false; value = n; size = 0; next = next })

abbrev pub tag : ℕ → ℕ → ℕ → Answer LineElement
tag id size next = Ok (record { id = id; tag = true; value = 0; size = size; next = next })

-- ---- the rows

-- written from packets and datagrams
unfoldable pub written_lines : List Row
written_lines =
    line-of-datagram "the bench sample" 2 sample 0 (replicate 36 7) (Ok 34) (line "1000,-0.0000001,54.7146368,5,21=3" ++ (7 ∷ 7 ∷ []))
    ∷ line-of-datagram "room for it alone" 2 sample 0 (replicate 34 7) (Ok 34) (line "1000,-0.0000001,54.7146368,5,21=3")
    ∷ line-of-datagram "a byte too short" 2 sample 0 (replicate 33 7) (Err (18 at 0)) (replicate 33 7)
    ∷ line-of-datagram "no such record" 2 sample 1 (replicate 36 7) (Err (16 at 0)) (replicate 36 7)
    ∷ line-of-datagram "the datagram is refused" 2 (set sample 33 3) 0 (replicate 36 7) (Err (10 at 0 byte 33)) (replicate 36 7)
    ∷ line-of-packet "codec 16, both coordinates negative, the second record" 2 newer 1 (replicate 106 7) (Ok 106) (line "1562760415000,-5.0000000,-0.0500000,515,277=161,385=162,322=45490,277=3250766788,334=15119379810110330840")
    ∷ line-of-packet "codec 8E, a name and an empty tag" 2 tags 0 (replicate 89 7) (Ok 88) (line "1562760414000,25.2797130,54.6872050,47,21=3,239=1,66=24079,403=\"Jonas Petraitis\",406=\"\"" ++ (7 ∷ []))
    ∷ line-of-packet "no such record" 2 tags 2 (replicate 100 7) (Err (16 at 0)) (replicate 100 7)
    ∷ line-of-packet "a byte too short" 2 tags 1 (replicate 65 7) (Err (18 at 0)) (replicate 65 7)
    ∷ line-of-packet "the packet is refused, at a record behind" 2 broken_tcp 0 (replicate 100 7) (Err (10 at 1 byte 48)) (replicate 100 7)
    ∷ lines-of-packet "both lines" 2 tags (replicate 155 7) (Ok 154) (line "1562760414000,25.2797130,54.6872050,47,21=3,239=1,66=24079,403=\"Jonas Petraitis\",406=\"\"" ++ (line "1562760415000,25.2795940,54.6871320,46,21=3,403=\"Ona\",403=\"Jonas\"" ++ (7 ∷ [])))
    ∷ lines-of-packet "a byte too short for the second" 2 tags (replicate 153 7) (Err (18 at 0)) (replicate 153 7)
    ∷ lines-of-packet "the packet is refused" 2 broken_tcp (replicate 100 7) (Err (10 at 1 byte 48)) (replicate 100 7)
    ∷ lines-of-datagram "codec 16, two lines" 2 newer_udp (replicate 151 7) (Ok 151) (line "1562760414000,54.7146368,-0.0000001,5,323=90" ++ line "1562760415000,-5.0000000,-0.0500000,515,277=161,385=162,322=45490,277=3250766788,334=15119379810110330840")
    ∷ lines-of-datagram "a byte too short" 2 newer_udp (replicate 150 7) (Err (18 at 0)) (replicate 150 7)
    ∷ lines-of-datagram "the datagram is refused" 2 (set sample 33 3) (replicate 36 7) (Err (10 at 0 byte 33)) (replicate 36 7)
    ∷ []

-- read: the answer, and the byte at which the line is wrong, its length where it is not
unfoldable pub read_lines : List Row
read_lines =
    read-line "the bench sample" (line "1000,-0.0000001,54.7146368,5,21=3") (fields 1000 (minus 1) (pos 547146368) 5 1 29) 34
    ∷ read-line "all at their largest" (line "18446744073709551615,214.7483647,-214.7483648,65535,65535=18446744073709551615") (fields 18446744073709551615 (pos 2147483647) (minus 2147483648) 65535 1 52) 79
    ∷ read-line "all nothing, no elements" (line "0,0.0000000,0.0000000,0") (fields 0 (pos 0) (pos 0) 0 0 24) 24
    ∷ read-line "tags behind a number" (line "0,0.0000000,0.0000000,0,1=0,2=\"a~ \\00\\22\\2C\\5C\\7F\\FF\",3=\"\"") (fields 0 (pos 0) (pos 0) 0 3 24) 59
    ∷ read-line "one more millisecond" (line "18446744073709551616,0.0000000,0.0000000,0") not_a_line 0
    ∷ read-line "one more ten-millionth" (line "0,214.7483648,0.0000000,0") not_a_line 2
    ∷ read-line "one less" (line "0,0.0000000,-214.7483649,0") not_a_line 12
    ∷ read-line "minus zero" (line "0,-0.0000000,0.0000000,0") not_a_line 2
    ∷ read-line "six places" (line "0,0.000000,0.0000000,0") not_a_line 2
    ∷ read-line "eight places" (line "0,0.00000000,0.0000000,0") not_a_line 2
    ∷ read-line "no whole degrees" (line "0,.0000000,0.0000000,0") not_a_line 2
    ∷ read-line "a spare zero in degrees" (line "0,00.0000000,0.0000000,0") not_a_line 2
    ∷ read-line "a speed over 16 bits" (line "0,0.0000000,0.0000000,65536") not_a_line 22
    ∷ read-line "a spare zero" (line "00,0.0000000,0.0000000,0") not_a_line 0
    ∷ read-line "a plus sign" (line "+1,0.0000000,0.0000000,0") not_a_line 0
    ∷ read-line "an ID over 65,535" (line "0,0.0000000,0.0000000,0,65536=1") not_a_line 24
    ∷ read-line "a value of 65 bits" (line "0,0.0000000,0.0000000,0,1=18446744073709551616") not_a_line 24
    ∷ read-line "a spare zero in an ID" (line "0,0.0000000,0.0000000,0,01=1") not_a_line 24
    ∷ read-line "no value" (line "0,0.0000000,0.0000000,0,1=") not_a_line 24
    ∷ read-line "no ID" (line "0,0.0000000,0.0000000,0,=1") not_a_line 24
    ∷ read-line "no sign of equality" (line "0,0.0000000,0.0000000,0,1") not_a_line 24
    ∷ read-line "a number behind a tag" (line "0,0.0000000,0.0000000,0,1=\"\",2=3") not_a_line 29
    ∷ read-line "lower-case hex" (line "0,0.0000000,0.0000000,0,1=\"\\0a\"") not_a_line 24
    ∷ read-line "an escape of what is written as itself" (line "0,0.0000000,0.0000000,0,1=\"\\41\"") not_a_line 24
    ∷ read-line "a comma in a tag" (line "0,0.0000000,0.0000000,0,1=\",\"") not_a_line 24
    ∷ read-line "a quote in a tag" (line "0,0.0000000,0.0000000,0,1=\"\"\"") not_a_line 24
    ∷ read-line "a tag without its end" (line "0,0.0000000,0.0000000,0,1=\"a") not_a_line 24
    ∷ read-line "a comma at the end" (line "0,0.0000000,0.0000000,0,") not_a_line 24
    ∷ read-line "three fields" (line "0,0.0000000,0.0000000") not_a_line 21
    ∷ read-line "no LF" (ascii "1000,-0.0000001,54.7146368,5,21=3") not_a_line 33
    ∷ read-line "nothing" ([]) not_a_line 0
    ∷ read-line "two LFs" (line "0,0.0000000,0.0000000,0" ++ (10 ∷ [])) not_a_line 22
    ∷ read-line "CR and LF" (ascii "0,0.0000000,0.0000000,0" ++ (13 ∷ 10 ∷ [])) not_a_line 22
    ∷ read-line "a second line behind it" (line "0,0.0000000,0.0000000,0" ++ line "0,0.0000000,0.0000000,0") not_a_line 22
    ∷ []

-- elements by number, and by the byte at which they start
unfoldable pub line_elements : List Row
line_elements =
    element-in-line "the bench sample's" (line "1000,-0.0000001,54.7146368,5,21=3") 0 (7 ∷ []) (number 21 3 34) (7 ∷ [])
    ∷ element-in-line "no second" (line "1000,-0.0000001,54.7146368,5,21=3") 1 (7 ∷ []) (Err (16 at 0)) (7 ∷ [])
    ∷ element-in-line "not a line" (ascii "1000,-0.0000001,54.7146368,5,21=3") 0 (7 ∷ []) (Err (20 at 0)) (7 ∷ [])
    ∷ element-in-line "a number leaves the buffer alone" (line "0,0.0000000,0.0000000,0,1=0,2=\"a~ \\00\\22\\2C\\5C\\7F\\FF\",3=\"\"") 0 [] (number 1 0 28) []
    ∷ element-in-line "a tag's bytes" (line "0,0.0000000,0.0000000,0,1=0,2=\"a~ \\00\\22\\2C\\5C\\7F\\FF\",3=\"\"") 1 (replicate 10 7) (tag 2 9 54) (0x61 ∷ 0x7E ∷ 0x20 ∷ 0x00 ∷ 0x22 ∷ 0x2C ∷ 0x5C ∷ 0x7F ∷ 0xFF ∷ 7 ∷ [])
    ∷ element-in-line "a byte too short" (line "0,0.0000000,0.0000000,0,1=0,2=\"a~ \\00\\22\\2C\\5C\\7F\\FF\",3=\"\"") 1 (replicate 8 7) (Err (18 at 0)) (replicate 8 7)
    ∷ element-in-line "an empty tag" (line "0,0.0000000,0.0000000,0,1=0,2=\"a~ \\00\\22\\2C\\5C\\7F\\FF\",3=\"\"") 2 [] (tag 3 0 59) []
    ∷ element-at "the first" (line "0,0.0000000,0.0000000,0,1=0,2=\"a~ \\00\\22\\2C\\5C\\7F\\FF\",3=\"\"") 24 (7 ∷ []) (number 1 0 28) (7 ∷ [])
    ∷ element-at "the second" (line "0,0.0000000,0.0000000,0,1=0,2=\"a~ \\00\\22\\2C\\5C\\7F\\FF\",3=\"\"") 28 (replicate 10 7) (tag 2 9 54) (0x61 ∷ 0x7E ∷ 0x20 ∷ 0x00 ∷ 0x22 ∷ 0x2C ∷ 0x5C ∷ 0x7F ∷ 0xFF ∷ 7 ∷ [])
    ∷ element-at "a byte too short" (line "0,0.0000000,0.0000000,0,1=0,2=\"a~ \\00\\22\\2C\\5C\\7F\\FF\",3=\"\"") 28 (replicate 8 7) (Err (18 at 0)) (replicate 8 7)
    ∷ element-at "no element starts there" (line "0,0.0000000,0.0000000,0,1=0,2=\"a~ \\00\\22\\2C\\5C\\7F\\FF\",3=\"\"") 0 (7 ∷ []) (Err (20 at 0)) (7 ∷ [])
    ∷ element-at "behind the line" (line "0,0.0000000,0.0000000,0,1=0,2=\"a~ \\00\\22\\2C\\5C\\7F\\FF\",3=\"\"") 1000 (7 ∷ []) (Err (20 at 0)) (7 ∷ [])
    ∷ []

abbrev pub AsTheDeskReads : Type 0
AsTheDeskReads = EachAsSaid (written_lines ∷ read_lines ∷ line_elements ∷ [])
