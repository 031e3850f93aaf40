-- What holds of all feeds of a connection: which states they give, and that the cuts between them don't matter.
use Rattle.std.specs.Prelude.{ℕ, ◌^◌, ◌<◌, ◌≡◌, ◌↔◌, Bool, true, false, List, [], ◌∷◌, ◌++◌, map, length, drop, get_or, eqb}
use Rattle.wire.specs.declared.Limits.{Limits}
use Rattle.wire.specs.Limits.{largest_of_all, limits_of, is_known}
use Rattle.wire.specs.Numbers.{Bytes, pick}
use Rattle.wire.specs.Sequences.{joined, All}
use Rattle.wire.specs.Answers.{refusal, is_accepted}
use Rattle.wire.specs.Imei.{imei_text}
use Rattle.avl.specs.DataField.{AvlData}
use Rattle.packet.specs.DataPackets.{DataPacket}
use Rattle.stream.specs.Stream.{for_login, for_packet, Item, login, packet, refusing, more, settled, waiting, stream}
use Rattle.connection.specs.State.{Gathered, kept, fresh, is_zero, opened, wanted}
use Rattle.connection.specs.Feeding.{fed}
use Rattle.claims.specs.Demand3.{Accepted}

-- ---- the states that feeds give

-- some feeds of bytes, from a fresh connection on, give it
pub data Reached (limits : Limits) (room : ℕ) : Gathered → Type 0 where
  at_first : Reached limits room (fresh room)
  by_feed : (c : Gathered) (s : List ℕ) → Reached limits room c → Bytes s → Reached limits room (fed limits room c s).state

-- closed: nothing is held, and all bytes are zero
unfoldable pub is_closed : ℕ → Gathered → Bool
is_closed room c = pick (eqb c.phase 2) (pick (eqb c.fill 0) (pick (eqb (length c.held) room) (is_zero c.held) false) false) false

-- the test: open or closed
unfoldable pub is_given : Limits → ℕ → Gathered → Bool
is_given limits room c = pick (is_accepted (opened limits room c)) true (is_closed room c)

-- ---- bytes cut into pieces, and fed

-- feeds of the pieces, in turn, give these items and leave this state
pub data Run (limits : Limits) (room : ℕ) : Gathered → List (List ℕ) → List Item → Gathered → Type 0 where
  -- no piece is left
  ended : (c : Gathered) → Run limits room c [] [] c
  -- a closed connection is fed no more
  shut : (c : Gathered) (pieces : List (List ℕ)) → c.phase ≡ 2 → Run limits room c pieces [] c
  -- more is needed: on to the next piece
  goes_on : (c d e : Gathered) (piece : List ℕ) (pieces : List (List ℕ)) (items : List Item) (used : ℕ)
      → fed limits room c piece ≡ record { state = d; used = used; told = more } → Run limits room d pieces items e → Run limits room c (piece ∷ pieces) items e
  -- an item: the unused rest of the piece is fed again
  gives : (c d e : Gathered) (piece : List ℕ) (pieces : List (List ℕ)) (items : List Item) (used : ℕ) (i : Item) → (c.phase ≡ 2 → ⊥)
      → fed limits room c piece ≡ record { state = d; used = used; told = settled i } → Run limits room d (drop used piece ∷ pieces) items e
      → Run limits room c (piece ∷ pieces) (i ∷ items) e
  -- a rest may wait for the next piece, and be fed with it
  together : (c e : Gathered) (a b : List ℕ) (pieces : List (List ℕ)) (items : List Item)
      → Run limits room c ((a ++ b) ∷ pieces) items e → Run limits room c (a ∷ b ∷ pieces) items e

-- what an item keeps to; a refusal may be any
abbrev pub Meets : Limits → Item → Type 0
Meets limits (login imei) = imei < 10 ^ 15
Meets limits (packet p) = Accepted limits p
Meets limits (refusing r) = Unit {0}

-- ---- the claims

pub record FeedsKept (limits : Limits) (room : ℕ) : Type 0 where
  -- the states that feeds give are those that the test takes
  pub states : (c : Gathered) → Bytes c.held → Reached limits room c ↔ (is_given limits room c ≡ true)
  -- 19, with nothing used or changed: exactly where a state, if feeds give it, is closed
  pub nineteen : (c : Gathered) (s : List ℕ) → Bytes c.held
      → (fed limits room c s ≡ record { state = c; used = 0; told = settled (refusing (refusal 19)) }) ↔ (Reached limits room c → c.phase ≡ 2)
  -- fewer bytes than are wanted settle nothing
  pub wanted_at_least : (c : Gathered) (s : List ℕ) → length s < wanted limits room c → (fed limits room c s).told ≡ more
  -- a run is the rule's stream of the joined pieces, however they are cut
  pub as_one_stream : (pieces : List (List ℕ)) (items : List Item) (e : Gathered) → Run limits room (fresh room) pieces items e
      → let whole = stream limits (joined (λ p. p) pieces) (waiting for_login []) in (items ≡ whole.items) × (e ≡ kept room whole.state)
  -- so the cuts don't matter
  pub cuts_dont_matter : (ps qs : List (List ℕ)) (items others : List Item) (c d : Gathered) → Run limits room (fresh room) ps items c → Run limits room (fresh room) qs others d
      → joined (λ p. p) ps ≡ joined (λ p. p) qs → (items ≡ others) × (c ≡ d)
  -- every way of cutting has an outcome
  pub outcomes : (pieces : List (List ℕ)) → (items : List Item) × (e : Gathered) × Run limits room (fresh room) pieces items e
  -- what is given keeps the rules
  pub given : (s : List ℕ) → Bytes s → All (Meets limits) (stream limits s (waiting for_login [])).items
  -- of a data packet, byte 8 is the codec and byte 9 the number of records: with this it is acknowledged
  pub announced : (a : AvlData) (p : List ℕ) → DataPacket limits a p → (get_or p 8 0 ≡ a.codec) × (get_or p 9 0 ≡ length a.records)
  -- a login and then any packets that keep the rules, joined, are given back, packet by packet, whatever the cuts
  pub given_back : (imei : ℕ) (ps pieces : List (List ℕ)) (items : List Item) (e : Gathered) → imei < 10 ^ 15 → All (Accepted limits) ps
      → Run limits room (fresh room) pieces items e → joined (λ p. p) pieces ≡ imei_text imei ++ joined (λ p. p) ps
      → (items ≡ login imei ∷ map packet ps) × (e ≡ kept room (waiting for_packet []))

-- every connection: by the limits of its family, which feeds leave as it is
pub record ConnectionsKept : Type 0 where
  pub known : (family : ℕ) → is_known (limits_of family).largest ≡ true → FeedsKept (limits_of family) largest_of_all
  -- a state with an unknown family: 19, with nothing used or changed
  pub unknown : (family : ℕ) (c : Gathered) (s : List ℕ) → is_known (limits_of family).largest ≡ false
      → fed (limits_of family) largest_of_all c s ≡ record { state = c; used = 0; told = settled (refusing (refusal 19)) }
