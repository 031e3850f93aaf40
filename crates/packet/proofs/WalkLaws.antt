-- Which way the judge of a packet goes, by what the frame answers.
use Rattle.std.specs.Prelude.{Err, Ok}
use Prim.Native.Nat.{ℕ, ◌+◌, ◌-◌, ◌/◌, ◌%◌, ◌≤◌, ◌<◌}
use native.Mathlib.Omega.{arith}
use mathlib.Core.Path.{◌≡◌, sym, ap, ap₂, ◌∙◌}
use mathlib.Core.List.{List, [], ◌∷◌, ◌++◌}
use lib.ListN.{length, take, drop, length-drop}
use lib.Seq.{length-take-le}
use borrow.Author.Tests.{le-leb, lt-leb}
use Rattle.wire.specs.declared.Limits.{Limits}
use Rattle.wire.specs.declared.Refusal.{Refusal}
use Rattle.wire.specs.Numbers.{Bytes, digits, be}
use Rattle.wire.specs.Answers.{refusal, from, on_accepted}
use Rattle.wire.proofs.Accepting.{check-passed, check-failed, on_accepted-passed}
use Rattle.frame.specs.Frame.{unframe, framing, refusal_of}
use Rattle.frame.proofs.FramingLaws.{framing-field, framing-unframed}
use Rattle.avl.specs.DataField.{read_data, data_result}
use Rattle.walk.specs.declared.Span.{Span}
use Rattle.walk.proofs.TakenLaws.{TakenOf, taken-fits}
use Rattle.packet.specs.DataPackets.{read_packet, answer_packet, acknowledged, tcp_acknowledgement}
use Rattle.packet.proofs.PacketLaws.{packet-exact}

pub unframed-refused : (limits : Limits) (p : List ℕ) {x : Refusal} → framing (unframe limits.largest p) ≡ Err x → (read_packet limits p ≡ Err x) × (x ≡ refusal_of (length p) x.number)
unfolding read_packet on_accepted
unframed-refused limits p e =
    let u = framing-unframed limits.largest p e in
    (ap (λ r. on_accepted r (λ d. from 8 (read_data limits.longest d))) u.0, u.1)

module _ (limits : Limits) (p : List ℕ) (n : ℕ) (e : framing (unframe limits.largest p) ≡ Ok n) (b : Bytes p) where
  -- the data field lies in the packet
  pub field-inside : (8 + n ≤ length p) × (3 ≤ n)
  field-inside = let f = framing-field limits.largest p n e b in omega arith

  -- the part that is handed on
  field-part : take (8 + n - 8) (drop 8 p) ≡ take n (drop 8 p)
  field-part =
      let same : 8 + n - 8 ≡ n = omega arith in
      ap (λ (k : ℕ). take k (drop 8 p)) same

  pub field-long : 3 ≤ length (take (8 + n - 8) (drop 8 p))
  field-long =
      let f = framing-field limits.largest p n e b in
      let k = length-take-le n (drop 8 p) (simp length-drop (omega arith)) in
      omega (arith, ap length field-part)

  pub field-read : from 8 (read_data limits.longest (take (8 + n - 8) (drop 8 p))) ≡ read_packet limits p
  unfolding read_packet
  field-read = ap (λ (d : List ℕ). from 8 (read_data limits.longest d)) field-part ∙ sym (on_accepted-passed (unframe limits.largest p) _ (framing-field limits.largest p n e b).0)

-- ---- what the walk tells of the answers

module _ (limits : Limits) (p : List ℕ) where
  -- codec and count fit a byte
  pub packet-fits : {want codec count : ℕ} {span : Span} → Bytes p → TakenOf want (read_packet limits p) codec count span → (codec < 256) × (count < 256)
  packet-fits b k = taken-fits k ((packet-exact limits p k.content b).0 k.accepts).rules

  pub answer-taken : {want codec count : ℕ} {span : Span} → TakenOf want (read_packet limits p) codec count span
      → answer_packet limits p ≡ Ok (record { codec = codec; count = count })
  unfolding answer_packet data_result
  answer-taken k =
      on_accepted-passed (read_packet limits p) _ k.accepts ∙ ap₂ (λ (x y : ℕ). Ok (record { codec = x; count = y })) k.codec_is k.count_is

  pub answer-refused : {x : Refusal} → read_packet limits p ≡ Err x → answer_packet limits p ≡ Err x
  unfolding answer_packet on_accepted
  answer-refused e = ap (λ r. on_accepted r (λ a. Ok (data_result a))) e

  pub count-taken : {want codec count : ℕ} {span : Span} → TakenOf want (read_packet limits p) codec count span
      → acknowledged (read_packet limits p) ≡ count
  unfolding acknowledged
  count-taken k = ap acknowledged k.accepts ∙ k.count_is

  pub count-refused : {x : Refusal} → read_packet limits p ≡ Err x → acknowledged (read_packet limits p) ≡ 0
  unfolding acknowledged
  count-refused e = ap acknowledged e

  pub acknowledgement-bytes : {n : ℕ} → n ≡ acknowledged (read_packet limits p) → n < 256 → 1 ≤ limits.largest → tcp_acknowledgement limits p ≡ Ok (0 ∷ 0 ∷ 0 ∷ n ∷ [])
  unfolding tcp_acknowledgement digits
  acknowledgement-bytes {n} e h k =
      let high : n / 256 ≡ 0 = omega arith in
      let low : n % 256 ≡ n = omega arith in
      check-passed _ 21 _ _ (le-leb 1 limits.largest k) ∙ ap Ok (sym (sym (ap₂ (λ (a b : ℕ). digits 256 3 a ++ (b ∷ [])) high low) ∙ ap (be 4) e))

  pub unknown-family : limits.largest < 1 → tcp_acknowledgement limits p ≡ Err (refusal 21)
  unfolding tcp_acknowledgement
  unknown-family h = check-failed _ 21 _ _ (lt-leb 1 limits.largest h)
