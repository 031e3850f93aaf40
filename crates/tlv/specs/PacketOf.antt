-- The TCP data packet of a TLV form: 17 for every form that no acceptable packet has.
use Rattle.std.specs.Prelude.{Err, Ok, ℕ, Bool, true, false, List, [], ◌∷◌, eqb}
use Rattle.wire.specs.declared.Limits.{Limits}
use Rattle.wire.specs.Limits.{is_known}
use Rattle.wire.specs.Numbers.{pick}
use Rattle.wire.specs.Answers.{Answer, check, on_accepted, refusal}
use Rattle.avl.specs.DataField.{AvlData}
use Rattle.packet.specs.DataPackets.{packet_bytes, read_packet}
use Rattle.datagram.specs.Datagrams.{read_datagram}
use Rattle.tlv.specs.Form.{form}
use Rattle.tlv.specs.Decoding.{decoded}

-- ---- the form of a packet and of a datagram, from its data field alone

unfoldable pub form_of_packet : Limits → List ℕ → Answer (List ℕ)
form_of_packet limits p = on_accepted (read_packet limits p) (λ a. Ok (form a))

unfoldable pub form_of_datagram : Limits → List ℕ → Answer (List ℕ)
form_of_datagram limits p = on_accepted (read_datagram limits p) (λ g. Ok (form g.payload))

-- ---- the packet of a form

abbrev pub same : List ℕ → List ℕ → Bool
same [] [] = true
same [] (b ∷ q) = false
same (a ∷ p) [] = false
same (a ∷ p) (b ∷ q) = pick (eqb a b) (same p q) false

-- whatever the refusal, it is 17
unfoldable pub or17 : {A : Type 0} → Answer A → Answer A
or17 (Ok a) = Ok a
or17 (Err r) = Err (refusal 17)

-- the form is decoded, written as a packet, read again, and has to be that packet's form
unfoldable pub read_form : Limits → List ℕ → Answer AvlData
read_form limits f =
    on_accepted (or17 (read_packet limits (packet_bytes (decoded f)))) (λ a. check (same (form a) f) 17 (Ok a))

unfoldable pub packet_within : Limits → List ℕ → Answer (List ℕ)
packet_within limits f = on_accepted (read_form limits f) (λ a. Ok (packet_bytes a))

-- 21 comes first
unfoldable pub packet_of_form : Limits → List ℕ → Answer (List ℕ)
packet_of_form limits f = check (is_known limits.largest) 21 (packet_within limits f)
