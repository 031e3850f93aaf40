-- How long a TLV form can be beside its TCP packet (request 8), so that buffers can be sized.
use Rattle.std.specs.Prelude.{Ok, ℕ, ◌*◌, ◌≤◌, ◌≡◌, List, [], ◌∷◌, length, replicate}
use Rattle.wire.specs.Limits.{limits_of}
use Rattle.wire.specs.Numbers.{Bytes}
use Rattle.avl.specs.Records.{AvlRecord}
use Rattle.avl.specs.DataField.{AvlData}
use Rattle.packet.specs.DataPackets.{packet_bytes, read_packet}
use Rattle.tlv.specs.Form.{form}
use Rattle.tlv.specs.PacketOf.{form_of_packet, form_of_datagram}

-- four times the packet is always enough, and so is four times the longest packet of its family; the same of a datagram
pub record FourTimes (family : ℕ) : Type 0 where
  pub packets : (p f : List ℕ) → Bytes p → form_of_packet (limits_of family) p ≡ Ok f → length f ≤ 4 * length p
  pub datagrams : (p f : List ℕ) → Bytes p → form_of_datagram (limits_of family) p ≡ Ok f → length f ≤ 4 * length p
  pub largest : (p f : List ℕ) → Bytes p → form_of_packet (limits_of family) p ≡ Ok f → length f ≤ 4 * (limits_of family).largest

-- ---- where it is tight: the values of one byte in codec 8, two bytes in the packet and seven in the form

-- a record with so many of them, and a packet with such records
abbrev pub crowded : ℕ → AvlRecord
crowded n =
    record {
      fixed = record { timestamp = 0; priority = 0; longitude = 0; latitude = 0; altitude = 0; angle = 0; satellites = 0; speed = 0; event = 0; generation = 0 };
      groups = replicate n (record { id = 1; value = 0 ∷ [] }) ∷ [] ∷ [] ∷ [] ∷ [];
    }

abbrev pub crowded_twice : ℕ → ℕ → AvlData
crowded_twice m n = record { codec = 0x08; records = crowded m ∷ crowded n ∷ [] }

-- the packet of `a` has `bytes` bytes and its form `text`; no packet of the family has a longer form for its length, nor any form over `most` bytes
pub record Closest (family : ℕ) (a : AvlData) (bytes text most : ℕ) : Type 0 where
  pub taken : read_packet (limits_of family) (packet_bytes a) ≡ Ok a
  pub packet : length (packet_bytes a) ≡ bytes
  pub formed : length (form a) ≡ text
  pub closer : (p f : List ℕ) → Bytes p → form_of_packet (limits_of family) p ≡ Ok f → bytes * length f ≤ text * length p
  pub longest : (p f : List ℕ) → Bytes p → form_of_packet (limits_of family) p ≡ Ok f → length f ≤ most

-- so three times is not enough: 1,593 is over 3 times 511, and 3,637 over 3 times 1,095
pub record FormSizes : Type 0 where
  pub enough : (family : ℕ) → FourTimes family
  pub family1 : Closest 1 (crowded_twice 112 106) 511 1593 1594
  pub family2 : Closest 2 (crowded_twice 255 255) 1095 3637 4208
