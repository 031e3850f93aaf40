-- Command packets that compute: codec 14 of document 006, codec 13 of document 010, and four that break one rule each.
use Rattle.std.specs.Prelude.{Err, Ok}
use mathlib.Core.Path.{◌≡◌, refl}
use mathlib.Core.List.{List, [], ◌∷◌}
use Prim.Native.Nat.{ℕ}
use Rattle.command.specs.Commands.{command_field, command_body, read_field, read_command, answer_command, text_view}
use Rattle.wire.specs.Limits.{limits_of}
use Rattle.wire.specs.Answers.{check_at, from, unplaced, refusal_at, on_accepted, told}
use Rattle.wire.specs.Envelope.{enclosed, codec_of, first_count, last_count, inner}
use Rattle.wire.specs.Imei.{imei_text, text_digit, read_imei, packed, pair_up_to, read_packed}
use Rattle.wire.specs.Numbers.{number_at, digits, value_from, little_at, le, signed}
use Rattle.wire.specs.Reading.{walked, numbered, and_then, ◌>>=◌, ◌>>◌, pure, here, require, span, number, bytes, up_to, repeat}
use Rattle.checksum.specs.Crc.{feedback, shift, shifts, absorb, crc_from, crc}
use Rattle.frame.specs.Frame.{framed, field_length, field_of, unframe, last_four, framing}
use Rattle.command.specs.Layouts.{types, layouts, find_layout, layout_of}
use Rattle.command.specs.Writing.{given_imei, packet_of, bytes_within, command_bytes}

getver : List ℕ
getver =
    0x00 ∷ 0x00 ∷ 0x00 ∷ 0x00 ∷ 0x00 ∷ 0x00 ∷ 0x00 ∷ 0x16 ∷ 0x0E ∷ 0x01 ∷ 0x05 ∷ 0x00 ∷ 0x00 ∷ 0x00 ∷ 0x0E ∷ 0x03 ∷ 0x52 ∷ 0x09 ∷ 0x30 ∷ 0x81 ∷ 0x45 ∷ 0x22 ∷ 0x51 ∷ 0x67
    ∷ 0x65 ∷ 0x74 ∷ 0x76 ∷ 0x65 ∷ 0x72 ∷ 0x01 ∷ 0x00 ∷ 0x00 ∷ 0xD2 ∷ 0xC1 ∷ []

reads-codec14 : read_command (limits_of 2) getver
    ≡ Ok (record { codec = 0x0E; type = 0x05; imei = 352093081452251; time = 0; text = 0x67 ∷ 0x65 ∷ 0x74 ∷ 0x76 ∷ 0x65 ∷ 0x72 ∷ [] })
unfolding on_accepted from told unplaced check_at enclosed codec_of first_count last_count inner imei_text text_digit read_imei packed pair_up_to read_packed number_at digits value_from little_at le signed walked numbered and_then ◌>>=◌ ◌>>◌ pure here require span number bytes up_to repeat feedback shift shifts absorb crc_from crc framed field_length field_of unframe last_four framing command_field command_body read_field read_command answer_command text_view types layouts find_layout layout_of given_imei packet_of bytes_within command_bytes limits_of getver
reads-codec14 = refl

-- writing it gives the same bytes, whatever time is given
writes-codec14 : command_bytes (limits_of 2) 0x0E 0x05 (0x33 ∷ 0x35 ∷ 0x32 ∷ 0x30 ∷ 0x39 ∷ 0x33 ∷ 0x30 ∷ 0x38 ∷ 0x31 ∷ 0x34 ∷ 0x35 ∷ 0x32 ∷ 0x32 ∷ 0x35 ∷ 0x31 ∷ []) 1692938881 (0x67 ∷ 0x65 ∷ 0x74 ∷ 0x76 ∷ 0x65 ∷ 0x72 ∷ []) ≡ Ok getver
unfolding on_accepted from told unplaced check_at enclosed codec_of first_count last_count inner imei_text text_digit read_imei packed pair_up_to read_packed number_at digits value_from little_at le signed walked numbered and_then ◌>>=◌ ◌>>◌ pure here require span number bytes up_to repeat feedback shift shifts absorb crc_from crc framed field_length field_of unframe last_four framing command_field command_body read_field read_command answer_command text_view types layouts find_layout layout_of given_imei packet_of bytes_within command_bytes limits_of getver
writes-codec14 = refl

-- a message with the time 64E83281
hello : List ℕ
hello =
    0x00 ∷ 0x00 ∷ 0x00 ∷ 0x00 ∷ 0x00 ∷ 0x00 ∷ 0x00 ∷ 0x1D ∷ 0x0D ∷ 0x01 ∷ 0x06 ∷ 0x00 ∷ 0x00 ∷ 0x00 ∷ 0x15 ∷ 0x64 ∷ 0xE8 ∷ 0x32 ∷ 0x81 ∷ 0x68 ∷ 0x65 ∷ 0x6C ∷ 0x6C ∷ 0x6F
    ∷ 0x20 ∷ 0x6C ∷ 0x65 ∷ 0x74 ∷ 0x73 ∷ 0x20 ∷ 0x74 ∷ 0x65 ∷ 0x73 ∷ 0x74 ∷ 0x0D ∷ 0x0A ∷ 0x01 ∷ 0x00 ∷ 0x00 ∷ 0x35 ∷ 0x48 ∷ []

reads-codec13 : read_command (limits_of 2) hello
    ≡ Ok (record { codec = 0x0D; type = 0x06; imei = 0; time = 0x64E83281; text = 0x68 ∷ 0x65 ∷ 0x6C ∷ 0x6C ∷ 0x6F ∷ 0x20 ∷ 0x6C ∷ 0x65 ∷ 0x74 ∷ 0x73 ∷ 0x20 ∷ 0x74 ∷ 0x65 ∷ 0x73 ∷ 0x74 ∷ 0x0D ∷ 0x0A ∷ [] })
unfolding on_accepted from told unplaced check_at enclosed codec_of first_count last_count inner imei_text text_digit read_imei packed pair_up_to read_packed number_at digits value_from little_at le signed walked numbered and_then ◌>>=◌ ◌>>◌ pure here require span number bytes up_to repeat feedback shift shifts absorb crc_from crc framed field_length field_of unframe last_four framing command_field command_body read_field read_command answer_command text_view types layouts find_layout layout_of given_imei packet_of bytes_within command_bytes limits_of hello
reads-codec13 = refl

writes-codec13 : command_bytes (limits_of 2) 0x0D 0x06 [] 0x64E83281 (0x68 ∷ 0x65 ∷ 0x6C ∷ 0x6C ∷ 0x6F ∷ 0x20 ∷ 0x6C ∷ 0x65 ∷ 0x74 ∷ 0x73 ∷ 0x20 ∷ 0x74 ∷ 0x65 ∷ 0x73 ∷ 0x74 ∷ 0x0D ∷ 0x0A ∷ []) ≡ Ok hello
unfolding on_accepted from told unplaced check_at enclosed codec_of first_count last_count inner imei_text text_digit read_imei packed pair_up_to read_packed number_at digits value_from little_at le signed walked numbered and_then ◌>>=◌ ◌>>◌ pure here require span number bytes up_to repeat feedback shift shifts absorb crc_from crc framed field_length field_of unframe last_four framing command_field command_body read_field read_command answer_command text_view types layouts find_layout layout_of given_imei packet_of bytes_within command_bytes limits_of hello
writes-codec13 = refl

-- type 11 in codec 12
mismatch12 : List ℕ
mismatch12 =
    0x00 ∷ 0x00 ∷ 0x00 ∷ 0x00 ∷ 0x00 ∷ 0x00 ∷ 0x00 ∷ 0x08 ∷ 0x0C ∷ 0x01 ∷ 0x11 ∷ 0x00 ∷ 0x00 ∷ 0x00 ∷ 0x00 ∷ 0x01 ∷ 0x00 ∷ 0x00 ∷ 0x14 ∷ 0xD2 ∷ []

refuses-type : read_command (limits_of 2) mismatch12 ≡ Err (refusal_at 13 10)
unfolding on_accepted from told unplaced check_at enclosed codec_of first_count last_count inner imei_text text_digit read_imei packed pair_up_to read_packed number_at digits value_from little_at le signed walked numbered and_then ◌>>=◌ ◌>>◌ pure here require span number bytes up_to repeat feedback shift shifts absorb crc_from crc framed field_length field_of unframe last_four framing command_field command_body read_field read_command answer_command text_view types layouts find_layout layout_of given_imei packet_of bytes_within command_bytes limits_of mismatch12
refuses-type = refl

-- a first digit that is not 0
first_digit : List ℕ
first_digit =
    0x00 ∷ 0x00 ∷ 0x00 ∷ 0x00 ∷ 0x00 ∷ 0x00 ∷ 0x00 ∷ 0x10 ∷ 0x0E ∷ 0x01 ∷ 0x05 ∷ 0x00 ∷ 0x00 ∷ 0x00 ∷ 0x08 ∷ 0x13 ∷ 0x52 ∷ 0x09 ∷ 0x30 ∷ 0x81 ∷ 0x45 ∷ 0x22 ∷ 0x51 ∷ 0x01
    ∷ 0x00 ∷ 0x00 ∷ 0xE6 ∷ 0x75 ∷ []

refuses-digit : read_command (limits_of 2) first_digit ≡ Err (refusal_at 15 15)
unfolding on_accepted from told unplaced check_at enclosed codec_of first_count last_count inner imei_text text_digit read_imei packed pair_up_to read_packed number_at digits value_from little_at le signed walked numbered and_then ◌>>=◌ ◌>>◌ pure here require span number bytes up_to repeat feedback shift shifts absorb crc_from crc framed field_length field_of unframe last_four framing command_field command_body read_field read_command answer_command text_view types layouts find_layout layout_of given_imei packet_of bytes_within command_bytes limits_of first_digit
refuses-digit = refl

-- type 11 with text
mismatch_text : List ℕ
mismatch_text =
    0x00 ∷ 0x00 ∷ 0x00 ∷ 0x00 ∷ 0x00 ∷ 0x00 ∷ 0x00 ∷ 0x11 ∷ 0x0E ∷ 0x01 ∷ 0x11 ∷ 0x00 ∷ 0x00 ∷ 0x00 ∷ 0x09 ∷ 0x03 ∷ 0x52 ∷ 0x09 ∷ 0x30 ∷ 0x81 ∷ 0x45 ∷ 0x22 ∷ 0x51 ∷ 0x41
    ∷ 0x01 ∷ 0x00 ∷ 0x00 ∷ 0x81 ∷ 0xC6 ∷ []

refuses-text : read_command (limits_of 2) mismatch_text ≡ Err (refusal_at 14 23)
unfolding on_accepted from told unplaced check_at enclosed codec_of first_count last_count inner imei_text text_digit read_imei packed pair_up_to read_packed number_at digits value_from little_at le signed walked numbered and_then ◌>>=◌ ◌>>◌ pure here require span number bytes up_to repeat feedback shift shifts absorb crc_from crc framed field_length field_of unframe last_four framing command_field command_body read_field read_command answer_command text_view types layouts find_layout layout_of given_imei packet_of bytes_within command_bytes limits_of mismatch_text
refuses-text = refl

-- a size that does not hold the time
short_time : List ℕ
short_time =
    0x00 ∷ 0x00 ∷ 0x00 ∷ 0x00 ∷ 0x00 ∷ 0x00 ∷ 0x00 ∷ 0x0B ∷ 0x0D ∷ 0x01 ∷ 0x06 ∷ 0x00 ∷ 0x00 ∷ 0x00 ∷ 0x03 ∷ 0x64 ∷ 0xE8 ∷ 0x32 ∷ 0x01 ∷ 0x00 ∷ 0x00 ∷ 0x6D ∷ 0x4E ∷ []

refuses-size : read_command (limits_of 2) short_time ≡ Err (refusal_at 14 11)
unfolding on_accepted from told unplaced check_at enclosed codec_of first_count last_count inner imei_text text_digit read_imei packed pair_up_to read_packed number_at digits value_from little_at le signed walked numbered and_then ◌>>=◌ ◌>>◌ pure here require span number bytes up_to repeat feedback shift shifts absorb crc_from crc framed field_length field_of unframe last_four framing command_field command_body read_field read_command answer_command text_view types layouts find_layout layout_of given_imei packet_of bytes_within command_bytes limits_of short_time
refuses-size = refl
