-- What a feed gives: the state, how many bytes it uses, and what it tells.
use Rattle.std.specs.Prelude.{Err, Ok, ℕ, ◌≤◌, ◌≡◌, List, [], length, leb}
use Rattle.wire.specs.declared.Limits.{Limits}
use Rattle.wire.specs.declared.Refusal.{Refusal}
use Rattle.wire.specs.Answers.{Answer, refusal, check, on_accepted}
use Rattle.wire.specs.Buffers.{leaving}
use Rattle.stream.specs.Stream.{login, packet, refusing, Verdict, more, settled, Taken, taken}
use Rattle.connection.specs.declared.Fed.{Fed}
use Rattle.connection.specs.declared.Lent.{Lent}
use Rattle.connection.specs.declared.Item.{Item}
use Rattle.connection.specs.declared.Item.TheVariants.{More, Login, Packet, Refused}
use Rattle.connection.specs.State.{Gathered, of_family, padded, kept, phase_of, held_by, opened}

pub record Outcome : Type 0 where
  pub state : Gathered
  pub used : ℕ
  pub told : Verdict

unfoldable pub outcome : ℕ → Taken → Outcome
outcome room t = record { state = kept room t.state; used = t.used; told = t.told }

-- the bytes are taken behind those held; a refusal before that uses and changes nothing
unfoldable pub feeding : Limits → ℕ → Gathered → List ℕ → Answer (List ℕ) → Outcome
feeding limits room c s (Ok held) = outcome room (taken limits (phase_of c.phase) held s)
feeding limits room c s (Err r) = record { state = c; used = 0; told = settled (refusing r) }

unfoldable pub fed : Limits → ℕ → Gathered → List ℕ → Outcome
fed limits room c s = feeding limits room c s (opened limits room c)

-- with a lent buffer for the packet, which has to be as long as a packet of the family may be: else 18, behind 19
unfoldable pub fed_into : Limits → ℕ → Gathered → List ℕ → List ℕ → Outcome
fed_into limits room c s out = feeding limits room c s (on_accepted (opened limits room c) (λ held. check (leb limits.largest (length out)) 18 (Ok held)))

-- the packet that is told, or no bytes
unfoldable pub packet_in : Verdict → List ℕ
packet_in more = []
packet_in (settled (login imei)) = []
packet_in (settled (packet p)) = p
packet_in (settled (refusing r)) = []

-- ---- what the code answers: an item's bytes stand beside it, so a packet is told by its length

unfoldable pub item_as : Verdict → Item
item_as more = More
item_as (settled (login imei)) = Login imei
item_as (settled (packet p)) = Packet (length p)
item_as (settled (refusing r)) = Refused r

-- the refusal that is told; number 0 where there is none
unfoldable pub item_refusal : Item → Refusal
item_refusal More = refusal 0
item_refusal (Login imei) = refusal 0
item_refusal (Packet size) = refusal 0
item_refusal (Refused r) = r

unfoldable pub fed_as : ℕ → ℕ → Outcome → Fed
fed_as room family o = record { state = of_family family o.state; used = o.used; item = item_as o.told; packet = padded room (packet_in o.told) }

unfoldable pub lent_as : Outcome → Lent
lent_as o = record { phase = o.state.phase; fill = o.state.fill; used = o.used; item = item_as o.told }

-- ---- a feed of an open state that is lent

-- a state that is open, and a lent buffer: both have room for every packet, and for a login
pub record Feedable (limits : Limits) (room : ℕ) (c : Gathered) (out : List ℕ) : Type 0 where
  pub opens : opened limits room c ≡ Ok (held_by c)
  pub holds : limits.largest ≤ room
  pub login : 17 ≤ limits.largest
  pub fits : limits.largest ≤ length out

-- what an outcome leaves: the answer, the state's bytes, and the lent buffer that was `before`
pub record Gives (o : Outcome) (before : List ℕ) (r : Lent) (held out : List ℕ) : Type 0 where
  pub answer : r ≡ lent_as o
  pub state : held ≡ o.state.held
  pub buffer : out ≡ leaving (Ok (packet_in o.told)) before
