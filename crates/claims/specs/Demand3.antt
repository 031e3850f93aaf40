-- Demand 3: unequal TCP packets accepted under the rules, each in some family of its own, are never taken for each other.
use Rattle.std.specs.Prelude.{ℕ, suc, ◌%◌, ◌≡◌, List, length, get_or}
use Rattle.wire.specs.declared.Limits.{Limits}
use Rattle.wire.specs.Limits.{limits_of}
use Rattle.wire.specs.Sequences.{joined, All}
use Rattle.checksum.specs.Bits.{differing}
use Rattle.frame.specs.Frame.{field_of, last_four}
use Rattle.avl.specs.DataField.{AvlData}
use Rattle.packet.specs.DataPackets.{DataPacket}
use Rattle.command.specs.Commands.{Command, CommandPacket}
use Rattle.tlv.specs.Form.{form}

-- accepted under the rules, within limits: a data packet or a command
pub data Accepted (limits : Limits) (p : List ℕ) : Type 0 where
  is_data : (a : AvlData) → DataPacket limits a p → Accepted limits p
  is_command : (c : Command) → CommandPacket limits c p → Accepted limits p

-- accepted in some family
abbrev pub InSomeFamily : List ℕ → Type 0
InSomeFamily p = (family : ℕ) × Accepted (limits_of family) p

-- they differ at `i` and `i + 1` at most
abbrev pub AgreeBut : ℕ → List ℕ → List ℕ → Type 0
AgreeBut i d e = (j : ℕ) → (j ≡ i → ⊥) → (j ≡ suc i → ⊥) → get_or d j 0 ≡ get_or e j 0

pub record Told (p q : List ℕ) (ps qs : List (List ℕ)) : Type 0 where
  -- data packets with the same TLV form are the same bytes
  pub by_form : (family other : ℕ) (a b : AvlData) → DataPacket (limits_of family) a p → DataPacket (limits_of other) b q → form a ≡ form b → p ≡ q
  -- commands with the same codec, type, IMEI, time and text are the same bytes
  pub by_fields : (family other : ℕ) (c e : Command) → CommandPacket (limits_of family) c p → CommandPacket (limits_of other) e q
      → c.codec ≡ e.codec → c.type ≡ e.type → c.imei ≡ e.imei → c.time ≡ e.time → c.text ≡ e.text → p ≡ q
  -- equally long packets never differ in an odd number of bits
  pub evenly : length p ≡ length q → differing p q % 2 ≡ 0
  -- nor, if their last four bytes agree, do their data fields differ in one byte or two neighbouring bytes only
  pub not_nearby : length p ≡ length q → last_four p ≡ last_four q → (i : ℕ) → AgreeBut i (field_of p) (field_of q) → field_of p ≡ field_of q
  -- lists that join to the same bytes are the same list
  pub in_one_way : joined (λ x. x) ps ≡ joined (λ x. x) qs → ps ≡ qs

-- any two packets so accepted and any two lists of such packets, whatever their codecs and families
abbrev pub NeverTakenForEachOther : Type 0
NeverTakenForEachOther =
    (p q : List ℕ) (ps qs : List (List ℕ)) → InSomeFamily p → InSomeFamily q
    → All InSomeFamily ps → All InSomeFamily qs → Told p q ps qs
