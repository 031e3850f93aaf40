-- Writing a command packet from its codec, type, IMEI digits, time and text.
use Rattle.std.specs.Prelude.{Ok, ℕ, ◌+◌, ◌-◌, ◌*◌, List, length, eqb, leb}
use Rattle.wire.specs.declared.Limits.{Limits}
use Rattle.wire.specs.Limits.{is_known}
use Rattle.wire.specs.Numbers.{pick, value_from}
use Rattle.wire.specs.Reading.{repeat}
use Rattle.wire.specs.Answers.{Answer, check, told, unplaced, on_accepted}
use Rattle.wire.specs.Imei.{text_digit}
use Rattle.frame.specs.Frame.{framed}
use Rattle.command.specs.Layouts.{types, layout_of, member}
use Rattle.command.specs.declared.Layout.{Layout}
use Rattle.command.specs.Commands.{Command, command_field, mismatch}

-- the IMEI as the caller gives it: nothing where the codec has none, else 15 ASCII digits
unfoldable pub given_imei : Layout → List ℕ → Answer ℕ
given_imei l s =
    check (eqb (length s) (2 * l.imei - 1)) 15
    (on_accepted (unplaced (told 0 (repeat (length s) text_digit s 0))) (λ ds. Ok (value_from 10 0 ds)))

-- the time as the caller gives it, ignored where the codec has none
abbrev pub given_time : Layout → ℕ → ℕ
given_time l time = pick (eqb l.time 0) 0 time

-- 14: the packet is too long, or type 11 has text
unfoldable pub packet_of : Limits → Layout → Command → Answer (List ℕ)
packet_of limits l c =
    check (mismatch c.type c.text) 14
    (check (leb (length (command_field l c) + 12) limits.largest) 14
    (Ok (framed (command_field l c))))

-- the packet's bytes, or 6, 13, 15, 14
unfoldable pub bytes_within : Limits → ℕ → ℕ → List ℕ → ℕ → List ℕ → Answer (List ℕ)
bytes_within limits codec type imei time text =
    on_accepted (layout_of codec)
    (λ l. check (member type (types l)) 13
    (on_accepted (given_imei l imei)
    (λ n. packet_of limits l (record { codec = codec; type = type; imei = n; time = given_time l time; text = text }))))

-- 21 comes first
unfoldable pub command_bytes : Limits → ℕ → ℕ → List ℕ → ℕ → List ℕ → Answer (List ℕ)
command_bytes limits codec type imei time text = check (is_known limits.largest) 21 (bytes_within limits codec type imei time text)
