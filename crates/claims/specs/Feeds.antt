-- Feeds of a connection: a row has the state, the bytes, and what CR 1 says they give with the state afterwards.
use Rattle.std.specs.Prelude.{ℕ, List, [], ◌∷◌, ◌++◌, length, take, drop, set, replicate}
use Rattle.wire.specs.declared.Refusal.{Refusal}
use Rattle.stream.specs.Stream as rule
use Rattle.stream.specs.Stream.{for_login, for_packet, waiting}
use Rattle.connection.specs.declared.Connection.{Connection}
use Rattle.connection.specs.declared.Fed.{Fed}
use Rattle.connection.specs.declared.Lent.{Lent}
use Rattle.connection.specs.declared.Item.{Item}
use Rattle.claims.specs.Rows.{Row, EachAsSaid, ◌at◌, ◌at◌byte◌}
use Rattle.claims.specs.Calls.{start, reset, feed, feed-either, feed-lent, want, streamed}
use Rattle.claims.specs.Packets.{field, tcp, login, plain, long, two, two16, two_tcp, broken_tcp, newer, older, getio_field, getver_field, getver, hello, hello_field}
use Rattle.claims.specs.BenchSheet.{sample, getio}

-- ---- packets

-- the bench sheet's sample over TCP, 47 bytes
abbrev pub sample_tcp : List ℕ
sample_tcp = tcp 0x00 0x23 (drop 23 sample) 0xB0 0xD2

-- 313 bytes, the second record has 256
abbrev pub long_tcp : List ℕ
long_tcp = tcp 0x01 0x2D (field 0x8E 2 (long 0 1 ++ long 214 1)) 0xB4 0xA7

-- 1,280 bytes: codec 12, type 06, a text of 1,260
abbrev pub largest : List ℕ
largest = tcp 0x04 0xF4 (0x0C ∷ 0x01 ∷ 0x06 ∷ 0x00 ∷ 0x00 ∷ 0x04 ∷ 0xEC ∷ (replicate 1260 7 ++ (0x01 ∷ []))) 0x08 0x79

-- ---- states

-- these bytes and zeros behind them, 1,280 in all
abbrev pub stored : List ℕ → List ℕ
stored s = take 1280 (s ++ replicate 1280 0)

-- these bytes are held, the login is expected
abbrev pub before_login : List ℕ → Connection
before_login s = record { held = stored s; fill = length s; phase = 0; family = 2 }

-- these bytes are held, a packet is expected
abbrev pub behind_login : List ℕ → Connection
behind_login s = record { held = stored s; fill = length s; phase = 1; family = 2 }

abbrev pub in_phase : ℕ → Connection
in_phase n = record { held = replicate 1280 0; fill = 0; phase = n; family = 2 }

abbrev pub closed : Connection
closed = in_phase 2

-- 3 bytes held, and a byte that is not zero at this place
abbrev pub spare : ℕ → Connection
spare place = record { held = set (stored (take 3 login)) place 0x01; fill = 3; phase = 0; family = 2 }

-- so many bytes held, they say
abbrev pub filled : ℕ → Connection
filled n = record { held = take 1280 largest; fill = n; phase = 1; family = 2 }

-- the same state of another family; the states above are of family 2
abbrev pub in_family : ℕ → Connection → Connection
in_family n c = record { held = c.held; fill = c.fill; phase = c.phase; family = n }

-- so many bytes of state, a lent one
abbrev pub room : ℕ → Connection
room n = record { held = replicate n 0; fill = 0; phase = 0; family = 2 }

-- ---- what a feed gives: how many bytes it used first

abbrev pub waits : ℕ → Connection → Fed
waits used c = record { state = c; used = used; item = Item.More; packet = replicate 1280 0 }

abbrev pub greets : ℕ → ℕ → Fed
greets used imei = record { state = behind_login []; used = used; item = Item.Login imei; packet = replicate 1280 0 }

-- a packet of so many bytes
abbrev pub gives : ℕ → ℕ → List ℕ → Fed
gives used size p = record { state = behind_login []; used = used; item = Item.Packet size; packet = stored p }

abbrev pub closes : ℕ → Refusal → Fed
closes used r = record { state = closed; used = used; item = Item.Refused r; packet = replicate 1280 0 }

-- the same feed of a connection of another family
abbrev pub fed_in : ℕ → Fed → Fed
fed_in n f = record { state = in_family n f.state; used = f.used; item = f.item; packet = f.packet }

-- 19
abbrev pub stays : Connection → Fed
stays c = record { state = c; used = 0; item = Item.Refused (19 at 0); packet = replicate 1280 0 }

abbrev pub unfed : Connection → Refusal → Lent
unfed c r = record { phase = c.phase; fill = c.fill; used = 0; item = Item.Refused r }

-- ---- the rows

-- every number that closes: a packet's header 2, 3; the whole packet 5, then 6 to 12 of data, or 7, 8 and 13 to 15 of a command; a login's 15
unfoldable pub feed_refusals : List Row
feed_refusals =
    feed-either "first byte, bytes behind the header" (behind_login []) (set two_tcp 0 0x01) (closes 8 (2 at 0))
    ∷ feed-either "fourth byte, L 0, 5 bytes held" (behind_login (0x00 ∷ 0x00 ∷ 0x00 ∷ 0x01 ∷ 0x00 ∷ [])) (0x00 ∷ 0x00 ∷ 0x00 ∷ 0x08 ∷ []) (closes 3 (2 at 0))
    ∷ feed-either "a second login" (behind_login []) login (closes 8 (2 at 0))
    ∷ feed-either "L 2" (behind_login []) (0x00 ∷ 0x00 ∷ 0x00 ∷ 0x00 ∷ 0x00 ∷ 0x00 ∷ 0x00 ∷ 0x02 ∷ []) (closes 8 (3 at 0 byte 4))
    ∷ feed-either "L 1,269, 7 bytes held" (behind_login (0x00 ∷ 0x00 ∷ 0x00 ∷ 0x00 ∷ 0x00 ∷ 0x00 ∷ 0x04 ∷ [])) (0xF5 ∷ 0x08 ∷ []) (closes 1 (3 at 0 byte 4))
    ∷ feed-either "CRC, lower byte, bytes behind" (behind_login []) (set two_tcp 74 0xB2 ++ getio) (closes 75 (5 at 0 byte 71))
    ∷ feed-either "CRC wrong, codec too" (behind_login []) (set two_tcp 8 0x07) (closes 75 (5 at 0 byte 71))
    ∷ feed-either "codec 07, counts 0" (behind_login []) (tcp 0x00 0x3F (set (set (set two 0 0x07) 1 0x00) 62 0x00) 0x34 0xFC) (closes 75 (6 at 0 byte 8))
    ∷ feed-either "codec 0F" (behind_login []) (tcp 0x00 0x0D (set getio_field 0 0x0F) 0xC3 0xCE) (closes 25 (6 at 0 byte 8))
    ∷ feed-either "counts 2 and 1, priority 3" (behind_login []) (tcp 0x00 0x3F (set (set two 10 0x03) 62 0x01) 0xBE 0xC0) (closes 75 (7 at 0 byte 70))
    ∷ feed-either "left-over byte, count 2" (behind_login []) (tcp 0x00 0x40 (field 0x08 2 (plain ++ plain ++ (0x00 ∷ []))) 0x14 0x75) (closes 76 (8 at 2 byte 70))
    ∷ feed-either "total 1, no value" (behind_login []) (tcp 0x00 0x3F (set two 57 0x01) 0x65 0xB2) (closes 75 (9 at 1 byte 40))
    ∷ feed-either "priority 3" (behind_login []) broken_tcp (closes 75 (10 at 1 byte 48))
    ∷ feed-either "generation 8" (behind_login []) (tcp 0x00 0x43 (set two16 60 0x08) 0x4C 0x37) (closes 79 (11 at 1 byte 68))
    ∷ feed-either "family 1, 256 bytes, 312 of 313 held" (in_family 1 (behind_login (take 312 long_tcp))) (0xA7 ∷ []) (fed_in 1 (closes 1 (12 at 1 byte 52)))
    ∷ feed-either "family 1, L 501, 7 bytes held" (in_family 1 (behind_login (0x00 ∷ 0x00 ∷ 0x00 ∷ 0x00 ∷ 0x00 ∷ 0x00 ∷ 0x01 ∷ []))) (0xF5 ∷ 0x08 ∷ []) (fed_in 1 (closes 1 (3 at 0 byte 4)))
    ∷ feed-either "command, CRC" (behind_login []) (set getio 24 0xCA) (closes 25 (5 at 0 byte 21))
    ∷ feed-either "command, second quantity 0, type 07" (behind_login []) (tcp 0x00 0x0D (set (set getio_field 2 0x07) 12 0x00) 0x78 0x01) (closes 25 (7 at 0 byte 20))
    ∷ feed-either "command, size cut short" (behind_login []) (tcp 0x00 0x07 (0x0C ∷ 0x01 ∷ 0x05 ∷ 0x00 ∷ 0x00 ∷ 0x00 ∷ 0x01 ∷ []) 0x11 0xC0) (closes 19 (8 at 0 byte 11))
    ∷ feed-either "command, type 11 in codec 12" (behind_login []) (tcp 0x00 0x0D (set getio_field 2 0x11) 0xF0 0x8A) (closes 25 (13 at 0 byte 10))
    ∷ feed-either "command, size 1 too large" (behind_login []) (tcp 0x00 0x0D (set getio_field 6 0x06) 0x00 0xF8) (closes 25 (14 at 0 byte 11))
    ∷ feed-either "command, first digit 1" (behind_login []) (tcp 0x00 0x16 (set getver_field 7 0x13) 0xDE 0xD1) (closes 34 (15 at 0 byte 15))
    ∷ feed-either "command, type 11, text" (behind_login []) (tcp 0x00 0x16 (set getver_field 2 0x11) 0xC5 0xF2) (closes 34 (14 at 0 byte 23))
    ∷ feed-either "codec 13, type 11" (behind_login []) (tcp 0x00 0x1D (set hello_field 2 0x11) 0xD6 0x49) (closes 41 (13 at 0 byte 10))
    ∷ feed-either "codec 13, size 3, 12 bytes held" (behind_login (take 12 (tcp 0x00 0x0B (0x0D ∷ 0x01 ∷ 0x06 ∷ 0x00 ∷ 0x00 ∷ 0x00 ∷ 0x03 ∷ 0x64 ∷ 0xE8 ∷ 0x32 ∷ 0x01 ∷ []) 0x6D 0x4E))) (drop 12 (tcp 0x00 0x0B (0x0D ∷ 0x01 ∷ 0x06 ∷ 0x00 ∷ 0x00 ∷ 0x00 ∷ 0x03 ∷ 0x64 ∷ 0xE8 ∷ 0x32 ∷ 0x01 ∷ []) 0x6D 0x4E) ++ getio) (closes 11 (14 at 0 byte 11))
    ∷ feed-either "login, IMEI length 14, bytes behind" (before_login []) (set login 1 0x0E ++ getio) (closes 17 (15 at 0))
    ∷ feed-either "login, last digit 3A, 16 bytes held" (before_login (take 16 login)) (0x3A ∷ 0x00 ∷ []) (closes 1 (15 at 0 byte 16))
    ∷ feed-either "a packet before the login" (before_login []) getio (closes 17 (15 at 0))
    ∷ []

-- 19, which comes first, and 18 of a lent buffer: nothing is used or changed
unfoldable pub shut_feeds : List Row
shut_feeds =
    feed-either "closed" closed login (stays closed)
    ∷ feed-either "closed, no bytes" closed [] (stays closed)
    ∷ feed-either "phase 3" (in_phase 3) login (stays (in_phase 3))
    ∷ feed-either "17 bytes held of a login, no bytes" (before_login login) [] (stays (before_login login))
    ∷ feed-either "first byte, 8 bytes held" (behind_login (take 8 (set two_tcp 0 0x01))) (0x08 ∷ []) (stays (behind_login (take 8 (set two_tcp 0 0x01))))
    ∷ feed-either "L 2, 9 bytes held" (behind_login (0x00 ∷ 0x00 ∷ 0x00 ∷ 0x00 ∷ 0x00 ∷ 0x00 ∷ 0x00 ∷ 0x02 ∷ 0x08 ∷ [])) [] (stays (behind_login (0x00 ∷ 0x00 ∷ 0x00 ∷ 0x00 ∷ 0x00 ∷ 0x00 ∷ 0x00 ∷ 0x02 ∷ 0x08 ∷ [])))
    ∷ feed-either "a whole packet held" (behind_login getio) (0x00 ∷ []) (stays (behind_login getio))
    ∷ feed-either "first spare byte not zero" (spare 3) login (stays (spare 3))
    ∷ feed-either "last spare byte not zero" (spare 1279) login (stays (spare 1279))
    ∷ feed-either "fill 1,281" (filled 1281) [] (stays (filled 1281))
    ∷ feed-either "family 0, all zero" (in_family 0 (before_login [])) login (stays (in_family 0 (before_login [])))
    ∷ feed-either "family 3, no bytes" (in_family 3 (behind_login [])) [] (stays (in_family 3 (behind_login [])))
    ∷ feed-either "family 1, L 501 held" (in_family 1 (behind_login (0x00 ∷ 0x00 ∷ 0x00 ∷ 0x00 ∷ 0x00 ∷ 0x00 ∷ 0x01 ∷ 0xF5 ∷ []))) [] (stays (in_family 1 (behind_login (0x00 ∷ 0x00 ∷ 0x00 ∷ 0x00 ∷ 0x00 ∷ 0x00 ∷ 0x01 ∷ 0xF5 ∷ []))))
    ∷ feed-lent "family 3, none lent" (in_family 3 (before_login [])) login [] (unfed (before_login []) (19 at 0)) (stored []) []
    ∷ feed-lent "family 1, 511 bytes lent" (in_family 1 (before_login [])) login (replicate 511 7) (unfed (before_login []) (18 at 0)) (stored []) (replicate 511 7)
    ∷ feed-lent "closed, none lent" closed login [] (unfed closed (19 at 0)) (stored []) []
    ∷ feed-lent "1,279 bytes of state" (room 1279) login (replicate 1280 7) (unfed (room 1279) (19 at 0)) (replicate 1279 0) (replicate 1280 7)
    ∷ feed-lent "1,281 bytes of state" (room 1281) login (replicate 1280 7) (unfed (room 1281) (19 at 0)) (replicate 1281 0) (replicate 1280 7)
    ∷ feed-lent "1,279 bytes lent, not four zeros" (behind_login (take 7 login)) (0x36 ∷ []) (replicate 1279 7) (unfed (behind_login (take 7 login)) (18 at 0)) (stored (take 7 login)) (replicate 1279 7)
    ∷ feed-lent "1,279 bytes lent, a login" (before_login []) login (replicate 1279 7) (unfed (before_login []) (18 at 0)) (stored []) (replicate 1279 7)
    ∷ feed-lent "none lent, no bytes" (before_login []) [] [] (unfed (before_login []) (18 at 0)) (stored []) []
    ∷ []

-- more needed, a login, a packet; with the state afterwards
unfoldable pub feed_answers : List Row
feed_answers =
    feed "no bytes" (before_login []) [] (waits 0 (before_login []))
    ∷ feed "a login" (before_login []) login (greets 17 123456789012345)
    ∷ feed "a login, a packet behind it" (before_login []) (login ++ getio) (greets 17 123456789012345)
    ∷ feed "a login but its last byte" (before_login []) (take 16 login) (waits 16 (before_login (take 16 login)))
    ∷ feed "its last byte, a packet behind it" (before_login (take 16 login)) (0x35 ∷ getio) (greets 1 123456789012345)
    ∷ feed "IMEI length wrong, 16 bytes" (before_login (take 3 getio)) (replicate 13 1) (waits 13 (before_login (take 3 getio ++ replicate 13 1)))
    ∷ feed "a packet" (behind_login []) sample_tcp (gives 47 47 sample_tcp)
    ∷ feed "a record of 256 bytes" (behind_login []) long_tcp (gives 313 313 long_tcp)
    ∷ feed "family 1, a packet" (in_family 1 (behind_login [])) sample_tcp (fed_in 1 (gives 47 47 sample_tcp))
    ∷ feed-lent "family 1, a packet, 512 bytes lent" (in_family 1 (behind_login [])) sample_tcp (replicate 512 7) (record { phase = 1; fill = 0; used = 47; item = Item.Packet 47 }) (stored []) (sample_tcp ++ replicate 465 7)
    ∷ feed "a packet, two bytes behind it" (behind_login []) (sample_tcp ++ (0x00 ∷ 0x01 ∷ [])) (gives 47 47 sample_tcp)
    ∷ feed "its first 7 bytes" (behind_login []) (take 7 sample_tcp) (waits 7 (behind_login (take 7 sample_tcp)))
    ∷ feed "no bytes, 7 held" (behind_login (take 7 sample_tcp)) [] (waits 0 (behind_login (take 7 sample_tcp)))
    ∷ feed "the next byte" (behind_login (take 7 sample_tcp)) (0x23 ∷ []) (waits 1 (behind_login (take 8 sample_tcp)))
    ∷ feed "the next 38" (behind_login (take 8 sample_tcp)) (take 38 (drop 8 sample_tcp)) (waits 38 (behind_login (take 46 sample_tcp)))
    ∷ feed "the last, two bytes behind it" (behind_login (take 46 sample_tcp)) (0xD2 ∷ 0x00 ∷ 0x01 ∷ []) (gives 1 47 sample_tcp)
    ∷ feed "all but the first 5" (behind_login (take 5 sample_tcp)) (drop 5 sample_tcp) (gives 42 47 sample_tcp)
    ∷ feed "not four zeros, 7 bytes" (behind_login []) (take 7 login) (waits 7 (behind_login (take 7 login)))
    ∷ feed "codec 07, all but the last byte" (behind_login []) (take 46 (set sample_tcp 8 0x07)) (waits 46 (behind_login (take 46 (set sample_tcp 8 0x07))))
    ∷ feed "codec 8E" (behind_login []) older (gives 67 67 older)
    ∷ feed "codec 16" (behind_login []) newer (gives 108 108 newer)
    ∷ feed "codec 12" (behind_login []) getio (gives 25 25 getio)
    ∷ feed "codec 13" (behind_login []) hello (gives 41 41 hello)
    ∷ feed "codec 13, 17 bytes held, a command behind it" (behind_login (take 17 hello)) (drop 17 hello ++ getio) (gives 24 41 hello)
    ∷ feed "codec 14" (behind_login []) getver (gives 34 34 getver)
    ∷ feed "L 1,268" (behind_login (take 1279 largest)) (0x79 ∷ 0x00 ∷ []) (gives 1 1280 largest)
    ∷ feed-lent "no bytes, 7 held" (behind_login (take 7 sample_tcp)) [] (replicate 1280 7) (record { phase = 1; fill = 7; used = 0; item = Item.More }) (stored (take 7 sample_tcp)) (replicate 1280 7)
    ∷ feed-lent "a login" (before_login (take 16 login)) (0x35 ∷ []) (replicate 1280 7) (record { phase = 1; fill = 0; used = 1; item = Item.Login 123456789012345 }) (stored []) (replicate 1280 7)
    ∷ feed-lent "more of a packet" (behind_login (take 5 sample_tcp)) (take 4 (drop 5 sample_tcp)) (replicate 1280 7) (record { phase = 1; fill = 9; used = 4; item = Item.More }) (stored (take 9 sample_tcp)) (replicate 1280 7)
    ∷ feed-lent "a packet" (behind_login []) (sample_tcp ++ getio) (replicate 1281 7) (record { phase = 1; fill = 0; used = 47; item = Item.Packet 47 }) (stored []) (sample_tcp ++ replicate 1234 7)
    ∷ feed-lent "a packet, 5 bytes held" (behind_login (take 5 sample_tcp)) (drop 5 sample_tcp) (replicate 1280 7) (record { phase = 1; fill = 0; used = 42; item = Item.Packet 47 }) (stored []) (sample_tcp ++ replicate 1233 7)
    ∷ feed-lent "priority 3, 9 bytes held" (behind_login (take 9 broken_tcp)) (drop 9 broken_tcp) (replicate 1280 7) (record { phase = 2; fill = 0; used = 66; item = Item.Refused (10 at 1 byte 48) }) (stored []) (replicate 1280 7)
    ∷ []

-- how many bytes are wanted before anything is judged; 0 where a feed gives 19
unfoldable pub wants : List Row
wants =
    want "a fresh connection" (before_login []) 17
    ∷ want "16 bytes held of a login" (before_login (take 16 login)) 1
    ∷ want "none held of a packet" (behind_login []) 8
    ∷ want "7 bytes held" (behind_login (take 7 sample_tcp)) 1
    ∷ want "7 bytes held, not four zeros" (behind_login (take 7 login)) 1
    ∷ want "8 bytes held" (behind_login (take 8 sample_tcp)) 39
    ∷ want "46 bytes held" (behind_login (take 46 sample_tcp)) 1
    ∷ want "8 bytes held, L 1,268" (behind_login (take 8 largest)) 1272
    ∷ want "family 1, 8 bytes held, L 500" (in_family 1 (behind_login (0x00 ∷ 0x00 ∷ 0x00 ∷ 0x00 ∷ 0x00 ∷ 0x00 ∷ 0x01 ∷ 0xF4 ∷ []))) 504
    ∷ want "family 1, 8 bytes held, L 501" (in_family 1 (behind_login (0x00 ∷ 0x00 ∷ 0x00 ∷ 0x00 ∷ 0x00 ∷ 0x00 ∷ 0x01 ∷ 0xF5 ∷ []))) 0
    ∷ want "family 3" (in_family 3 (before_login [])) 0
    ∷ want "closed" closed 0
    ∷ want "phase 3" (in_phase 3) 0
    ∷ want "a whole login held" (before_login login) 0
    ∷ want "8 bytes held, not four zeros" (behind_login (take 8 login)) 0
    ∷ want "a whole packet held" (behind_login getio) 0
    ∷ want "a spare byte not zero" (spare 3) 0
    ∷ want "fill 1,281" (filled 1281) 0
    ∷ want "1,279 bytes of state" (room 1279) 0
    ∷ []

-- all items of a stream from a fresh connection, and the state behind it
unfoldable pub streams : List Row
streams =
    streamed "no bytes" 2 [] [] (waiting for_login [])
    ∷ streamed "a login, a packet, a command" 2 (login ++ sample_tcp ++ getio) (rule.login 123456789012345 ∷ rule.packet sample_tcp ∷ rule.packet getio ∷ []) (waiting for_packet [])
    ∷ streamed "a login, a command, 3 bytes of a packet" 2 (login ++ getio ++ (0x00 ∷ 0x00 ∷ 0x01 ∷ [])) (rule.login 123456789012345 ∷ rule.packet getio ∷ []) (waiting for_packet (0x00 ∷ 0x00 ∷ 0x01 ∷ []))
    ∷ streamed "a login, a message of codec 13, a command" 2 (login ++ hello ++ getio) (rule.login 123456789012345 ∷ rule.packet hello ∷ rule.packet getio ∷ []) (waiting for_packet [])
    ∷ streamed "the CRC wrong, a command behind it" 2 (login ++ set getio 24 0xCA ++ getio) (rule.login 123456789012345 ∷ rule.refusing (5 at 0 byte 21) ∷ []) rule.closed
    ∷ streamed "two logins, a command behind them" 2 (login ++ login ++ getio) (rule.login 123456789012345 ∷ rule.refusing (2 at 0) ∷ []) rule.closed
    ∷ streamed "family 1, a record of 256 bytes" 1 (login ++ long_tcp ++ getio) (rule.login 123456789012345 ∷ rule.refusing (12 at 1 byte 52) ∷ []) rule.closed
    ∷ streamed "the same in family 2" 2 (login ++ long_tcp ++ getio) (rule.login 123456789012345 ∷ rule.packet long_tcp ∷ rule.packet getio ∷ []) (waiting for_packet [])
    ∷ streamed "a command first, then a login" 2 (getio ++ login) (rule.refusing (15 at 0) ∷ []) rule.closed
    ∷ []

-- a start: fresh; or 21, and closed, of family 1. A reset is the start of the state's family
unfoldable pub starts : List Row
starts =
    start "family 1" 1 (record { refusal = 0 at 0; state = in_family 1 (before_login []) })
    ∷ start "family 2" 2 (record { refusal = 0 at 0; state = before_login [] })
    ∷ start "family 0" 0 (record { refusal = 21 at 0; state = in_family 1 closed })
    ∷ start "family 3" 3 (record { refusal = 21 at 0; state = in_family 1 closed })
    ∷ start "family 258" 258 (record { refusal = 21 at 0; state = in_family 1 closed })
    ∷ reset "closed" closed (before_login [])
    ∷ reset "a refused start" (in_family 1 closed) (in_family 1 (before_login []))
    ∷ reset "family 1, a packet begun" (in_family 1 (behind_login (take 7 sample_tcp))) (in_family 1 (before_login []))
    ∷ reset "family 3" (in_family 3 (behind_login [])) (in_family 1 closed)
    ∷ []

abbrev pub feeds : List (List Row)
feeds = starts ∷ feed_refusals ∷ shut_feeds ∷ feed_answers ∷ wants ∷ streams ∷ []

abbrev pub AsThePaperFeeds : Type 0
AsThePaperFeeds = EachAsSaid feeds
