-- The bytes of a connection, one by one: a login, then data or command packets.
use Rattle.std.specs.Prelude.{Err, Ok, ℕ, suc, ◌+◌, List, [], ◌∷◌, ◌++◌, length, leb}
use Rattle.wire.specs.declared.Limits.{Limits}
use Rattle.wire.specs.declared.Refusal.{Refusal}
use Rattle.wire.specs.Numbers.{pick}
use Rattle.wire.specs.Answers.{Answer, on_accepted}
use Rattle.frame.specs.Frame.{header}
use Rattle.packet.specs.DataPackets.{read_packet}
use Rattle.command.specs.Layouts.{is_command}
use Rattle.command.specs.Commands.{read_command}
use Rattle.login.specs.Login.{read_login}

-- what is expected: the login, or a packet
pub data Phase : Type 0 where
  for_login : Phase
  for_packet : Phase

-- a login's IMEI, a packet's bytes, or why they are refused
pub data Item : Type 0 where
  login : ℕ → Item
  packet : List ℕ → Item
  refusing : Refusal → Item

-- of the bytes gathered so far: more are needed, or they settle an item
pub data Verdict : Type 0 where
  more : Verdict
  settled : Item → Verdict

-- a phase and the bytes gathered so far, or closed
pub data State : Type 0 where
  waiting : Phase → List ℕ → State
  closed : State

-- ---- when bytes are judged, and how

-- how many bytes are judged together, as far as these tell: a login's 17; a packet's header, 8, which may get 2 or 3; then the whole packet
unfoldable pub needed : Limits → Phase → List ℕ → Answer ℕ
needed limits for_login s = Ok 17
needed limits for_packet s = pick (leb 8 (length s)) (on_accepted (header limits.largest s) (λ n. Ok (n + 12))) (Ok 8)

unfoldable pub item_of : {A : Type 0} → (A → Item) → Answer A → Item
item_of f (Ok a) = f a
item_of f (Err r) = refusing r

-- a whole packet: a codec of the table of commands goes by the command rules, any other by the data rules, which have 6 for what is none of theirs
unfoldable pub judged_packet : Limits → List ℕ → Answer (List ℕ)
judged_packet limits p =
    pick
    (is_command p)
    (on_accepted (read_command limits p) (λ c. Ok p))
    (on_accepted (read_packet limits p) (λ a. Ok p))

unfoldable pub judged : Limits → Phase → List ℕ → Item
judged limits for_login s = item_of login (read_login s)
judged limits for_packet s = item_of packet (judged_packet limits s)

unfoldable pub verdict_by : Answer ℕ → ℕ → Item → Verdict
verdict_by (Ok n) size item = pick (leb n size) (settled item) more
verdict_by (Err r) size item = settled (refusing r)

unfoldable pub verdict : Limits → Phase → List ℕ → Verdict
verdict limits phase s = verdict_by (needed limits phase s) (length s) (judged limits phase s)

-- ---- what follows an item: packets, with none of their bytes gathered; a refusal closes

unfoldable pub next : Item → State
next (login imei) = waiting for_packet []
next (packet p) = waiting for_packet []
next (refusing r) = closed

-- ---- one feed: byte by byte up to the one that settles an item

pub record Taken : Type 0 where
  pub used : ℕ
  pub told : Verdict
  pub state : State

-- a byte is used; it settles an item, or the rest goes on
unfoldable pub after_byte : Verdict → Taken → Taken
after_byte more rest = record { used = suc rest.used; told = rest.told; state = rest.state }
after_byte (settled i) rest = record { used = 1; told = settled i; state = next i }

unfoldable pub taken : Limits → Phase → List ℕ → List ℕ → Taken
taken limits phase held [] = record { used = 0; told = more; state = waiting phase held }
taken limits phase held (b ∷ s) = after_byte (verdict limits phase (held ++ (b ∷ []))) (taken limits phase (held ++ (b ∷ [])) s)

-- ---- a whole stream: all its items, and the state behind it; a closed connection takes nothing

pub record Streamed : Type 0 where
  pub items : List Item
  pub state : State

unfoldable pub cons : Item → Streamed → Streamed
cons i rest = record { items = i ∷ rest.items; state = rest.state }

unfoldable pub by_verdict : Verdict → Streamed → (Item → Streamed) → Streamed
by_verdict more rest f = rest
by_verdict (settled i) rest f = cons i (f i)

unfoldable pub stream : Limits → List ℕ → State → Streamed
stream limits [] state = record { items = []; state = state }
stream limits (b ∷ s) closed = record { items = []; state = closed }
stream limits (b ∷ s) (waiting phase held) =
    by_verdict (verdict limits phase (held ++ (b ∷ []))) (stream limits s (waiting phase (held ++ (b ∷ [])))) (λ i. stream limits s (next i))
