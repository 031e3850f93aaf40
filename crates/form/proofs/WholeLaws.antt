-- The form of a packet and of a datagram is that of its data field.
use Rattle.std.specs.Prelude.{Err, Ok}
use Rattle.wire.specs.Answers.{Answer}
use Prim.Native.Nat.{ℕ, ◌-◌, ◌*◌, ◌^◌, ◌≤◌, ◌<◌}
use native.Mathlib.Omega.{arith}
use mathlib.Core.Path.{◌≡◌, ap}
use mathlib.Core.List.{List}
use lib.ListN.{length, take, drop, length-drop, length-take}
use Rattle.wire.specs.declared.Limits.{Limits}
use Rattle.wire.specs.declared.Refusal.{Refusal}
use Rattle.wire.specs.Numbers.{Bytes}
use Rattle.wire.proofs.Widths.{bytes_take, bytes_drop}
use Rattle.form.proofs.FormSize.{form-size}
use Rattle.wire.proofs.Accepting.{on_accepted-accepted, on_accepted-passed, on_accepted-refused}
use Rattle.avl.specs.DataField.{AvlData, read_data}
use Rattle.avl.proofs.FieldLaws.{FieldOf}
use Rattle.packet.specs.DataPackets.{read_packet}
use Rattle.packet.proofs.FieldLaws.{packet-field}
use Rattle.datagram.specs.Datagrams.{Datagram, read_datagram}
use Rattle.datagram.proofs.FieldLaws.{datagram-field}
use Rattle.tlv.specs.Form.{form}
use Rattle.tlv.specs.PacketOf.{form_of_packet, form_of_datagram}
use Rattle.traverse.specs.Fields.{Writes}
use Rattle.traverse.proofs.FieldLaws.{Answers, written-field, refused-whole}
use Rattle.form.specs.Moves.{form_of_field}

-- ---- a data field

module _ (longest : ℕ) (d : List ℕ) where
  module _ {a : AvlData} (long : 3 ≤ length d) (small : length d < 2 ^ 32) (e : read_data longest d ≡ Ok a) where
    pub field-taken : FieldOf longest d a
    field-taken = record { long = long; small = small; accepts = e }

    pub field-written : {before after : List ℕ} {r : Answer ℕ} → Writes form d before after r → Answers (form_of_field longest d) before after r
    unfolding form_of_field
    field-written w = written-field field-taken (on_accepted-passed (read_data longest d) _ e) w

  pub field-refused : {x : Refusal} {before : List ℕ} → read_data longest d ≡ Err x → Answers (form_of_field longest d) before before (Err x)
  unfolding form_of_field
  field-refused e = refused-whole (on_accepted-refused (read_data longest d) _ e)

-- ---- a packet and a datagram

module _ (limits : Limits) (p : List ℕ) where
  pub packet-written : {a : AvlData} → read_packet limits p ≡ Ok a → Bytes p → {before after : List ℕ} {r : Answer ℕ}
      → Writes form (take (length p - 4 - 8) (drop 8 p)) before after r → Answers (form_of_packet limits p) before after r
  unfolding form_of_packet
  packet-written e b w = written-field (packet-field limits p e b) (on_accepted-passed (read_packet limits p) _ e) w

  pub packet-refused : {x : Refusal} {before : List ℕ} → read_packet limits p ≡ Err x → Answers (form_of_packet limits p) before before (Err x)
  unfolding form_of_packet
  packet-refused e = refused-whole (on_accepted-refused (read_packet limits p) _ e)

  pub datagram-written : {g : Datagram} → read_datagram limits p ≡ Ok g → Bytes p → {before after : List ℕ} {r : Answer ℕ}
      → Writes form (take (length p - 23) (drop 23 p)) before after r → Answers (form_of_datagram limits p) before after r
  unfolding form_of_datagram
  datagram-written e b w = written-field (datagram-field limits p e b) (on_accepted-passed (read_datagram limits p) _ e) w

  pub datagram-refused : {x : Refusal} {before : List ℕ} → read_datagram limits p ≡ Err x
      → Answers (form_of_datagram limits p) before before (Err x)
  unfolding form_of_datagram
  datagram-refused e = refused-whole (on_accepted-refused (read_datagram limits p) _ e)

-- ---- how long a form can be: four bytes for each of the packet or the datagram

form-long : {longest n : ℕ} {d f : List ℕ} {a : AvlData} → Bytes d → FieldOf longest d a → length d ≤ n → ◌≡◌ {A = Answer (List ℕ)} (Ok (form a)) (Ok f) → length f ≤ 4 * n
form-long {longest} {n} {d} {f} {a} b k h e =
    let same : form a ≡ f = cc in
    omega (arith, ap length same, form-size longest d a b k.long k.accepts)

module _ (limits : Limits) (p f : List ℕ) (b : Bytes p) where
  pub packet-room : form_of_packet limits p ≡ Ok f → length f ≤ 4 * length p
  unfolding form_of_packet
  packet-room e =
      let i = on_accepted-accepted (read_packet limits p) _ e in
      form-long (bytes_take (length p - 4 - 8) (drop 8 p) (bytes_drop 8 p b)) (packet-field limits p i.1 b) (simp (length-take, length-drop) (omega arith)) i.2

  pub datagram-room : form_of_datagram limits p ≡ Ok f → length f ≤ 4 * length p
  unfolding form_of_datagram
  datagram-room e =
      let i = on_accepted-accepted (read_datagram limits p) _ e in
      form-long (bytes_take (length p - 23) (drop 23 p) (bytes_drop 23 p b)) (datagram-field limits p i.1 b) (simp (length-take, length-drop) (omega arith)) i.2
