-- The bench sheet, P1 to P13: what the sheet gives the judges in family 2, and what it says they answer.
use Rattle.std.specs.Prelude.{Err, Ok, ℕ, List, [], ◌∷◌, set}
use Rattle.wire.specs.Limits.{limits_of}
use Rattle.wire.specs.Answers.{Answer, on_accepted}
use Rattle.command.specs.Commands.{read_command}
use Rattle.datagram.specs.Datagrams.{udp_acknowledgement}
use Rattle.tlv.specs.PacketOf.{form_of_packet, form_of_datagram}
use Rattle.claims.specs.Rows.{Row, row, AsSaid, ◌at◌, ◌at◌byte◌}

abbrev pub sample : List ℕ
sample =
    0x00 ∷ 0x38 ∷ 0xCA ∷ 0xFE ∷ 0x01 ∷ 0x05 ∷ 0x00 ∷ 0x0F ∷ 0x31 ∷ 0x32 ∷ 0x33 ∷ 0x34 ∷ 0x35 ∷ 0x36 ∷ 0x37 ∷ 0x38 ∷ 0x39 ∷ 0x30 ∷ 0x31 ∷ 0x32 ∷ 0x33 ∷ 0x34 ∷ 0x35 ∷ 0x08
    ∷ 0x01 ∷ 0x00 ∷ 0x00 ∷ 0x00 ∷ 0x00 ∷ 0x00 ∷ 0x00 ∷ 0x03 ∷ 0xE8 ∷ 0x01 ∷ 0xFF ∷ 0xFF ∷ 0xFF ∷ 0xFF ∷ 0x20 ∷ 0x9C ∷ 0xCA ∷ 0x80 ∷ 0x00 ∷ 0x64 ∷ 0x00 ∷ 0x00 ∷ 0x07 ∷ 0x00
    ∷ 0x05 ∷ 0x00 ∷ 0x01 ∷ 0x01 ∷ 0x15 ∷ 0x03 ∷ 0x00 ∷ 0x00 ∷ 0x00 ∷ 0x01 ∷ []

abbrev pub sample_form : List ℕ
sample_form =
    0x01 ∷ 0x00 ∷ 0x64 ∷ 0x00 ∷ 0x08 ∷ 0x1B ∷ 0x00 ∷ 0x65 ∷ 0x00 ∷ 0xE8 ∷ 0x03 ∷ 0x00 ∷ 0x00 ∷ 0x00 ∷ 0x00 ∷ 0x00 ∷ 0x00 ∷ 0x01 ∷ 0xFF ∷ 0xFF ∷ 0xFF ∷ 0xFF ∷ 0x80 ∷ 0xCA
    ∷ 0x9C ∷ 0x20 ∷ 0x64 ∷ 0x00 ∷ 0x00 ∷ 0x00 ∷ 0x07 ∷ 0x05 ∷ 0x00 ∷ 0x00 ∷ 0x00 ∷ 0x00 ∷ 0x03 ∷ 0x00 ∷ 0x01 ∷ 0x00 ∷ 0x15 ∷ 0x00 ∷ 0x03 ∷ []

abbrev pub sample_acknowledgement : List ℕ
sample_acknowledgement = 0x00 ∷ 0x05 ∷ 0xCA ∷ 0xFE ∷ 0x01 ∷ 0x05 ∷ 0x01 ∷ []

abbrev pub getio : List ℕ
getio =
    0x00 ∷ 0x00 ∷ 0x00 ∷ 0x00 ∷ 0x00 ∷ 0x00 ∷ 0x00 ∷ 0x0D ∷ 0x0C ∷ 0x01 ∷ 0x05 ∷ 0x00 ∷ 0x00 ∷ 0x00 ∷ 0x05 ∷ 0x67 ∷ 0x65 ∷ 0x74 ∷ 0x69 ∷ 0x6F ∷ 0x01 ∷ 0x00 ∷ 0x00 ∷ 0x00
    ∷ 0xCB ∷ []

-- a command's codec, type, IMEI, time and text
unfoldable pub command_fields : List ℕ → Answer (List ℕ)
command_fields p = on_accepted (read_command (limits_of 2) p) (λ c. Ok (c.codec ∷ c.type ∷ c.imei ∷ c.time ∷ c.text))

unfoldable pub sheet : List Row
sheet =
    row "P1" (form_of_datagram (limits_of 2) sample) (Ok sample_form)
    ∷ row "P2" (udp_acknowledgement (limits_of 2) sample) (Ok sample_acknowledgement)
    ∷ row "P3" (form_of_datagram (limits_of 2) (set sample 1 0x37)) (Err (4 at 0))
    ∷ row "P4" (form_of_datagram (limits_of 2) (set sample 57 2)) (Err (7 at 0 byte 57))
    ∷ row "P5" (form_of_datagram (limits_of 2) (set sample 33 3)) (Err (10 at 0 byte 33))
    ∷ row "P6" (form_of_datagram (limits_of 2) (set sample 50 2)) (Err (9 at 0 byte 25))
    ∷ row "P7" (form_of_datagram (limits_of 2) (set sample 51 2)) (Err (8 at 0 byte 57))
    ∷ row "P8" (form_of_datagram (limits_of 2) (set (set sample 24 2) 57 2)) (Err (8 at 1 byte 57))
    ∷ row "P9" (command_fields getio) (Ok (0x0C ∷ 0x05 ∷ 0 ∷ 0 ∷ 0x67 ∷ 0x65 ∷ 0x74 ∷ 0x69 ∷ 0x6F ∷ []))
    ∷ row "P10" (command_fields (set getio 24 0xCA)) (Err (5 at 0 byte 21))
    ∷ row "P11" (form_of_packet (limits_of 2) []) (Err (1 at 0))
    ∷ row "P12" (form_of_packet (limits_of 2) (0 ∷ 0 ∷ 0 ∷ 0 ∷ 0 ∷ 0 ∷ 0 ∷ 0 ∷ [])) (Err (3 at 0 byte 4))
    ∷ row "P13" (form_of_packet (limits_of 2) (0 ∷ 0 ∷ 0 ∷ 0 ∷ 0 ∷ 0 ∷ 0x04 ∷ 0xF5 ∷ [])) (Err (3 at 0 byte 4))
    ∷ row "P13" (form_of_packet (limits_of 2) (0 ∷ 0 ∷ 0 ∷ 0 ∷ 0 ∷ 0 ∷ 0x04 ∷ 0xF4 ∷ [])) (Err (4 at 0))
    ∷ []

-- every row is answered as the sheet says
abbrev pub AsTheSheetSays : Type 0
AsTheSheetSays = AsSaid sheet
