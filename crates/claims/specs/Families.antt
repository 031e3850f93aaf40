-- What holds of the families of unit (request 5), as one claim.
use Rattle.std.specs.Prelude.{Err, Ok, ℕ, ◌^◌, ◌≤◌, ◌<◌, ◌≡◌, true, List, ◌∷◌, ◌++◌}
use Rattle.wire.specs.declared.Limits.{Limits}
use Rattle.wire.specs.declared.Refusal.{Refusal}
use Rattle.wire.specs.Limits.{limits_of, is_known, Below}
use Rattle.wire.specs.Numbers.{Bytes}
use Rattle.wire.specs.Answers.{refusal}
use Rattle.avl.specs.Codecs.{widths_of}
use Rattle.avl.specs.Records.{AvlRecord, element_count}
use Rattle.avl.specs.DataField.{AvlData}
use Rattle.packet.specs.DataPackets.{read_packet, answer_packet, tcp_acknowledgement}
use Rattle.datagram.specs.Datagrams.{Datagram, read_datagram, answer_datagram, udp_acknowledgement}
use Rattle.command.specs.Commands.{Command, read_command, answer_command}
use Rattle.command.specs.Writing.{command_bytes}
use Rattle.lookup.specs.Lookups.{LastKnown, tcp_source, udp_source, last_known}
use Rattle.tlv.specs.Decoding.{decoded}
use Rattle.tlv.specs.PacketOf.{form_of_packet, form_of_datagram, packet_of_form}
use Rattle.contents.specs.Contents.{contents_of_packet, contents_of_datagram}
use Rattle.line.specs.RecordLines.{line_of_packet, line_of_datagram, lines_of_packet, lines_of_datagram}

-- ---- what one family accepts, another that allows no less accepts with the same result

-- every call on this TCP data packet gives the same by both limits; the look-ups are made of its source
pub record SamePacket (a b : Limits) (p : List ℕ) : Type 0 where
  pub read : read_packet b p ≡ read_packet a p
  pub answer : answer_packet b p ≡ answer_packet a p
  pub acknowledgement : tcp_acknowledgement b p ≡ tcp_acknowledgement a p
  pub source : tcp_source b p ≡ tcp_source a p
  pub form : form_of_packet b p ≡ form_of_packet a p
  pub table : contents_of_packet b p ≡ contents_of_packet a p
  pub line : (n : ℕ) → line_of_packet b p n ≡ line_of_packet a p n
  pub lines : lines_of_packet b p ≡ lines_of_packet a p

pub record SameDatagram (a b : Limits) (p : List ℕ) : Type 0 where
  pub read : read_datagram b p ≡ read_datagram a p
  pub answer : answer_datagram b p ≡ answer_datagram a p
  pub acknowledgement : udp_acknowledgement b p ≡ udp_acknowledgement a p
  pub source : udp_source b p ≡ udp_source a p
  pub form : form_of_datagram b p ≡ form_of_datagram a p
  pub table : contents_of_datagram b p ≡ contents_of_datagram a p
  pub line : (n : ℕ) → line_of_datagram b p n ≡ line_of_datagram a p n
  pub lines : lines_of_datagram b p ≡ lines_of_datagram a p

pub record SameCommand (a b : Limits) (p : List ℕ) : Type 0 where
  pub read : read_command b p ≡ read_command a p
  pub answer : answer_command b p ≡ answer_command a p

pub record AcceptedToo (a b : Limits) : Type 0 where
  pub packets : (p : List ℕ) (x : AvlData) → Bytes p → read_packet a p ≡ Ok x → SamePacket a b p
  pub datagrams : (p : List ℕ) (g : Datagram) → Bytes p → read_datagram a p ≡ Ok g → SameDatagram a b p
  pub commands : (p : List ℕ) (c : Command) → Bytes p → read_command a p ≡ Ok c → SameCommand a b p
  -- the last known value, found by the lesser limits
  pub known : (id : ℕ) (newer older : List ℕ) (k : LastKnown) → Bytes newer → Bytes older
      → last_known id (tcp_source a newer) (tcp_source a older) ≡ Ok k → last_known id (tcp_source b newer) (tcp_source b older) ≡ Ok k
  -- a packet of a form, a command that is written
  pub forms : (f p : List ℕ) → Bytes f → packet_of_form a f ≡ Ok p → packet_of_form b f ≡ Ok p
  pub written : (codec type : ℕ) (imei : List ℕ) (time : ℕ) (text p : List ℕ) → command_bytes a codec type imei time text ≡ Ok p → command_bytes b codec type imei time text ≡ Ok p

-- ---- number 12

-- no record is over its packet's limit, so where the record limit is no less, 12 never occurs
pub record Never12 (limits : Limits) : Type 0 where
  pub packets : (p : List ℕ) (r : Refusal) → Bytes p → read_packet limits p ≡ Err r → r.number ≡ 12 → ⊥
  pub datagrams : (p : List ℕ) (r : Refusal) → Bytes p → read_datagram limits p ≡ Err r → r.number ≡ 12 → ⊥

-- ---- number 21

-- whatever is given: no byte of it matters. Look-ups, forms, tables and lines are made of what these read
pub record Says21 (limits : Limits) : Type 0 where
  pub packets : (p : List ℕ) → read_packet limits p ≡ Err (refusal 21)
  pub datagrams : (p : List ℕ) → read_datagram limits p ≡ Err (refusal 21)
  pub commands : (p : List ℕ) → read_command limits p ≡ Err (refusal 21)
  pub acknowledgements : (p : List ℕ) → tcp_acknowledgement limits p ≡ Err (refusal 21)
  pub forms : (f : List ℕ) → packet_of_form limits f ≡ Err (refusal 21)
  pub written : (codec type : ℕ) (imei : List ℕ) (time : ℕ) (text : List ℕ) → command_bytes limits codec type imei time text ≡ Err (refusal 21)

pub record FamiliesKept : Type 0 where
  -- any number but 1 and 2 is no family
  pub others : (family : ℕ) → (family ≡ 1 → ⊥) → (family ≡ 2 → ⊥) → Says21 (limits_of family)
  -- over the order of limits, once for all families to come
  pub in_order : (a b : Limits) → Below a b → b.longest < 256 ^ 2 → AcceptedToo a b
  pub first_in_second : AcceptedToo (limits_of 1) (limits_of 2)
  pub unlimited : (limits : Limits) → limits.largest ≤ limits.longest → limits.datagram ≤ limits.longest → Never12 limits
  pub second_never12 : Never12 (limits_of 2)
  -- no form has a record with more elements than its total can say: of 08 and 10 more than 255. `Totals` has 9 for such a record in a packet
  pub no_form : (family : ℕ) (f : List ℕ) (first rest : List AvlRecord) (r : AvlRecord) → is_known (limits_of family).largest ≡ true → Bytes f
      → (decoded f).records ≡ first ++ (r ∷ rest) → 256 ^ (widths_of (decoded f).codec).count ≤ element_count r.groups
      → packet_of_form (limits_of family) f ≡ Err (refusal 17)
