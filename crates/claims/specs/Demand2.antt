-- Demand 2 about what the calls answer, in every family: an answer that meets its call's contract accepts an input
-- with a result exactly if the input is the bytes of something that meets the rules, with this result.
use Rattle.std.specs.Prelude.{Ok, ℕ, ◌≤◌, ◌≡◌, ◌↔◌, List, ◌++◌, length, drop}
use Rattle.wire.specs.Answers.{Answer}
use Rattle.wire.specs.Numbers.{Bytes}
use Rattle.wire.specs.Limits.{limits_of}
use Rattle.wire.specs.Buffers.{writing, leaving}
use Rattle.avl.specs.DataField.{AvlData, data_result}
use Rattle.avl.specs.declared.DataResult.{DataResult}
use Rattle.packet.specs.DataPackets.{DataPacket, answer_packet}
use Rattle.datagram.specs.Datagrams.{Datagram, UdpPacket, answer_datagram}
use Rattle.datagram.specs.declared.DatagramResult.{DatagramResult}
use Rattle.command.specs.declared.CommandFields.{CommandFields}
use Rattle.command.specs.Commands.{Command, CommandPacket, answered, answer_command}
use Rattle.login.specs.Login.{LoginPacket, read_login}
use Rattle.tlv.specs.Form.{form}
use Rattle.tlv.specs.PacketOf.{packet_of_form}

pub record AcceptedExactly : Type 0 where
  pub packets : (family : ℕ) (p : List ℕ) (r : Answer DataResult) → Bytes p → r ≡ answer_packet (limits_of family) p → (result : DataResult)
      → (r ≡ Ok result) ↔ ((a : AvlData) × DataPacket (limits_of family) a p × (data_result a ≡ result))
  pub datagrams : (family : ℕ) (p : List ℕ) (r : Answer DatagramResult) → Bytes p → r ≡ answer_datagram (limits_of family) p → (result : DatagramResult)
      → (r ≡ Ok result) ↔ ((g : Datagram) × UdpPacket (limits_of family) g p × (record { payload = data_result g.payload; header = g.header } ≡ result))
  pub commands : (family : ℕ) (p : List ℕ) (r : Answer CommandFields) → Bytes p → r ≡ answer_command (limits_of family) p → (result : CommandFields)
      → (r ≡ Ok result) ↔ ((c : Command) × CommandPacket (limits_of family) c p × (answered (Ok c) ≡ Ok result))
  pub logins : (p : List ℕ) (r : Answer ℕ) → Bytes p → r ≡ read_login p → (imei : ℕ) → (r ≡ Ok imei) ↔ LoginPacket imei p
  -- the packet `q` of the form `f`, written to the start of a buffer
  pub forms : (family : ℕ) (f before after : List ℕ) (r : Answer ℕ) → Bytes f
      → r ≡ writing (packet_of_form (limits_of family) f) before → after ≡ leaving (packet_of_form (limits_of family) f) before → (q : List ℕ)
      → ((r ≡ Ok (length q)) × (after ≡ q ++ drop (length q) before))
      ↔ ((a : AvlData) × DataPacket (limits_of family) a q × (form a ≡ f) × (length q ≤ length before))
