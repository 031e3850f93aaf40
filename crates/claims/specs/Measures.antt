-- What demand 3 compares packets by.
use Rattle.std.specs.Prelude.{List, [], ◌∷◌, ◌++◌}
use Rattle.wire.specs.Sequences.{joined}
use Rattle.checksum.specs.Bits.{differing}
use Rattle.frame.specs.Frame.{field_of, last_four}
use Rattle.claims.specs.Rows.{Row, row, AsSaid}
use Rattle.claims.specs.Packets.{two, two_tcp, getio_field}
use Rattle.claims.specs.BenchSheet.{getio}

unfoldable pub measures : List Row
measures =
    row "no bit differs" (differing getio getio) 0
    ∷ row "the lowest bit" (differing (0x00 ∷ []) (0x01 ∷ [])) 1
    ∷ row "the highest bit" (differing (0xFF ∷ []) (0x7F ∷ [])) 1
    ∷ row "8 bits" (differing (0x55 ∷ []) (0xAA ∷ [])) 8
    ∷ row "1 bit and 8 in the third byte" (differing (0x10 ∷ 0xFF ∷ 0x00 ∷ []) (0x00 ∷ 0xFF ∷ 0xFF ∷ [])) 9
    ∷ row "the CRC field" (last_four getio) (0x00 ∷ 0x00 ∷ 0x00 ∷ 0xCB ∷ [])
    ∷ row "a command's data field" (field_of getio) getio_field
    ∷ row "a data packet's" (field_of two_tcp) two
    ∷ row "joined" (joined (λ x. x) (getio ∷ two_tcp ∷ [])) (getio ++ two_tcp)
    ∷ row "joined, the empty list" (joined (λ x. x) []) []
    ∷ []

abbrev pub AsMeasured : Type 0
AsMeasured = AsSaid measures
