-- The state of a connection as it is kept: `room` bytes, of which the first so many are held, the numbers of the phase and the family.
use Rattle.std.specs.Prelude.{Err, Ok, ℕ, ◌-◌, Bool, true, false, List, [], ◌∷◌, ◌++◌, length, take, drop, replicate, eqb, leb}
use Rattle.wire.specs.declared.Limits.{Limits}
use Rattle.wire.specs.Limits.{limits_of, is_known}
use Rattle.wire.specs.Numbers.{pick}
use Rattle.wire.specs.Answers.{Answer, refusal, check, on_accepted}
use Rattle.stream.specs.Stream.{Phase, for_login, for_packet, Verdict, more, settled, State, waiting, closed, needed, verdict}
use Rattle.connection.specs.declared.Connection.{Connection}
use Rattle.connection.specs.declared.Started.{Started}

abbrev pub zeros : ℕ → List ℕ
zeros n = replicate n 0

-- bytes with zeros behind them, `room` in all
unfoldable pub padded : ℕ → List ℕ → List ℕ
padded room s = s ++ zeros (room - length s)

-- what feeds change
pub record Gathered : Type 0 where
  pub held : List ℕ
  pub fill : ℕ
  pub phase : ℕ

abbrev pub gathered : Connection → Gathered
gathered c = record { held = c.held; fill = c.fill; phase = c.phase }

-- feeds leave the family as it is
abbrev pub of_family : ℕ → Gathered → Connection
of_family family g = record { held = g.held; fill = g.fill; phase = g.phase; family = family }

unfoldable pub phase_number : Phase → ℕ
phase_number for_login = 0
phase_number for_packet = 1

-- how a state is kept; spare bytes are zero
unfoldable pub kept : ℕ → State → Gathered
kept room (waiting phase held) = record { held = padded room held; fill = length held; phase = phase_number phase }
kept room closed = record { held = padded room []; fill = 0; phase = 2 }

unfoldable pub fresh : ℕ → Gathered
fresh room = kept room (waiting for_login [])

-- a start: fresh, or 21 and closed, of family 1, where the family is not known
unfoldable pub started : ℕ → ℕ → Started
started room family =
    pick (is_known (limits_of family).largest)
    (record { refusal = refusal 0; state = of_family family (fresh room) })
    (record { refusal = refusal 21; state = of_family 1 (kept room closed) })

-- ---- 19

unfoldable pub is_zero : List ℕ → Bool
is_zero [] = true
is_zero (b ∷ s) = pick (eqb b 0) (is_zero s) false

unfoldable pub is_more : Verdict → Bool
is_more more = true
is_more (settled i) = false

-- of a number that is 0 or 1; of others `opened` makes nothing
unfoldable pub phase_of : ℕ → Phase
phase_of n = pick (eqb n 0) for_login for_packet

unfoldable pub held_by : Gathered → List ℕ
held_by c = take c.fill c.held

-- the bytes held, where the family is known, the connection is not closed and its state is one that feeds from a fresh one give: more is needed, and spare bytes are zero
unfoldable pub opened : Limits → ℕ → Gathered → Answer (List ℕ)
opened limits room c =
    check (is_known limits.largest) 19
    (check (leb c.phase 1) 19
    (check (eqb (length c.held) room) 19
    (check (leb c.fill room) 19
    (check (is_zero (drop c.fill c.held)) 19
    (check (is_more (verdict limits (phase_of c.phase) (held_by c))) 19
    (Ok (held_by c)))))))

-- ---- how many bytes are wanted before anything is judged

unfoldable pub count_of : Answer ℕ → ℕ
count_of (Ok n) = n
count_of (Err r) = 0

unfoldable pub judged_at : Limits → ℕ → Gathered → Answer ℕ
judged_at limits room c = on_accepted (opened limits room c) (needed limits (phase_of c.phase))

-- 0 where a feed gives 19
unfoldable pub wanted : Limits → ℕ → Gathered → ℕ
wanted limits room c = count_of (judged_at limits room c) - c.fill
