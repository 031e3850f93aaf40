-- What the code answers, of what the definitions read.
use Rattle.std.specs.Prelude.{Err, Ok, ℕ, List, length}
use Rattle.command.specs.declared.Body.{Body}
use Rattle.wire.specs.Reading.{Read, got, bad}
use Rattle.wire.specs.Answers.{Answer, on_accepted}
use Rattle.frame.specs.Frame.{framed}
use Rattle.command.specs.declared.Layout.{Layout}
use Rattle.command.specs.Commands.{Command, command_field}
use Rattle.command.specs.Writing.{given_time}

-- the type, the IMEI, the time and the text's length
unfoldable pub body_as : Read Command → Answer Body
body_as (got c next) = Ok (record { kind = c.type; imei = c.imei; time = c.time; size = (length c.text) })
body_as (bad x) = Err x

-- the packet with this IMEI
unfoldable pub planned : Layout → ℕ → ℕ → List ℕ → Answer ℕ → Answer (List ℕ)
planned l type time text r =
    on_accepted r (λ n. Ok (framed (command_field l (record { codec = l.codec; type = type; imei = n; time = given_time l time; text = text }))))
