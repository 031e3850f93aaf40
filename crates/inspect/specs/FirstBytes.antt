-- What kind of input the first bytes show.
use Rattle.std.specs.Prelude.{ℕ, ◌+◌, Bool, true, false, List, length, eqb, leb}
use Rattle.wire.specs.Numbers.{number_at, pick}
use Rattle.command.specs.Layouts.{is_command}
use Rattle.inspect.specs.declared.Task.{Task}
use Rattle.inspect.specs.declared.Task.TheVariants.{Packet, Datagram, Login, Command, Form, Connection}

-- the `w` bytes at `at` are there, and their number is `n`
unfoldable pub shows : List ℕ → ℕ → ℕ → ℕ → Bool
shows p at w n = pick (leb (at + w) (length p)) (eqb (number_at p at w) n) false

-- four zero bytes
unfoldable pub is_tcp : List ℕ → Bool
is_tcp p = shows p 0 4 0

-- 17 bytes, an IMEI's length first
unfoldable pub is_login : List ℕ → Bool
is_login p = pick (eqb (length p) 17) (shows p 0 2 15) false

-- 01 00 64 00, unless an IMEI's length stands at 6, as in a datagram of 258 bytes with packet ID 6400
unfoldable pub is_form : List ℕ → Bool
is_form p = pick (shows p 0 4 0x01006400) (pick (shows p 6 2 15) false true) false

-- more than 17 bytes, an IMEI's length first, where a datagram of so many bytes has another; unless an IMEI's length stands at 6, as in a datagram
unfoldable pub is_connection : List ℕ → Bool
is_connection p = pick (leb (length p) 17) false (pick (shows p 6 2 15) false (shows p 0 2 15))

unfoldable pub kind_of : List ℕ → Task
kind_of p =
    pick (is_login p) Login (pick (is_tcp p) (pick (is_command p) Command Packet) (pick (is_form p) Form (pick (is_connection p) Connection Datagram)))
