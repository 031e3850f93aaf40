-- Demand 3 holds across all families: every family's records fit the TLV form's lengths.
use Prim.Native.Nat.{ℕ, ◌%◌}
use native.Mathlib.Omega.{arith}
use mathlib.Core.Path.{◌≡◌, sym, ap, ap₂, ◌∙◌, subst₂}
use mathlib.Core.List.{List, [], ◌∷◌}
use lib.ListN.{length}
use Rattle.wire.specs.declared.Limits.{Limits}
use Rattle.wire.specs.Limits.{limits_of}
use Rattle.wire.proofs.LimitLaws.{limits-most}
use Rattle.wire.specs.Sequences.{All}
use Rattle.wire.proofs.Placed.{between-whole}
use Rattle.checksum.specs.Bits.{differing}
use Rattle.frame.specs.Frame.{framed, FrameRules, IsFrame, field_of, last_four}
use Rattle.frame.proofs.FrameLaws.{length-framed, parts}
use Rattle.frame.proofs.Differences.{even-difference, no-neighbours}
use Rattle.frame.proofs.Joining.{one_way}
use Rattle.avl.specs.DataField.{AvlData, data_bytes}
use Rattle.packet.specs.DataPackets.{packet_bytes, DataPacket}
use Rattle.command.specs.declared.Layout.{Layout}
use Rattle.command.specs.Commands.{Command, command_field, CommandPacket}
use Rattle.command.proofs.CommandLaws.{layout-unique}
use Rattle.tlv.specs.Form.{form}
use Rattle.tlv.proofs.PacketOfLaws.{form-unique}
use Rattle.claims.specs.Demand3.{Accepted, InSomeFamily, is_data, is_command, AgreeBut, NeverTakenForEachOther}

module _ (limits : Limits) where
  framing : (d p : List ℕ) → FrameRules limits.largest d → p ≡ framed d → IsFrame p
  framing d p h e = record { field = d; bytes = h.bytes; counted = h.counted; whole = e }

  -- whatever is accepted is a frame
  is-frame : (p : List ℕ) → Accepted limits p → IsFrame p
  unfolding packet_bytes
  is-frame p (is_data a k) = framing (data_bytes a) p k.frame k.whole
  is-frame p (is_command c k) = framing (command_field k.row c) p k.frame k.whole

all-frames : (ps : List (List ℕ)) → All InSomeFamily ps → All IsFrame ps
all-frames [] h = tt
all-frames (p ∷ ps) h = (is-frame (limits_of h.0.0) p h.0.1, all-frames ps h.1)

by-form : (p q : List ℕ) (family other : ℕ) (a b : AvlData) → DataPacket (limits_of family) a p → DataPacket (limits_of other) b q → form a ≡ form b → p ≡ q
by-form p q family other a b f g e =
    let same = form-unique (limits_of family).longest (limits_of other).longest a b (omega (arith, (limits-most family).records)) (omega (arith, (limits-most other).records)) f.rules g.rules e in
    f.whole ∙ ap packet_bytes same ∙ sym g.whole

by-fields : (p q : List ℕ) (family other : ℕ) (c e : Command) → CommandPacket (limits_of family) c p → CommandPacket (limits_of other) e q
    → c.codec ≡ e.codec → c.type ≡ e.type → c.imei ≡ e.imei → c.time ≡ e.time → c.text ≡ e.text → p ≡ q
by-fields p q family other c e f g codec type imei time text =
    let same : c ≡ e = λ i. record { codec = codec i; type = type i; imei = imei i; time = time i; text = text i } in
    let row : f.row ≡ g.row = layout-unique c.codec f.rules.layout (rw (sym codec) at g.rules.layout) in
    f.whole ∙ ap₂ (λ (l : Layout) (x : Command). framed (command_field l x)) row same ∙ sym g.whole

-- the length of a frame's data field is known from the frame's
same_size : (p q : List ℕ) (f : IsFrame p) (g : IsFrame q) → length p ≡ length q → length f.field ≡ length g.field
same_size p q f g e = omega (arith, ap length f.whole, ap length g.whole, length-framed f.field, length-framed g.field)

the_field : (p : List ℕ) (f : IsFrame p) → field_of p ≡ f.field
the_field p f = ap field_of f.whole ∙ (parts f.field (framed f.field) _ f.bytes f.counted (between-whole (framed f.field))).field

evenly : (p q : List ℕ) → IsFrame p → IsFrame q → length p ≡ length q → differing p q % 2 ≡ 0
evenly p q f g e = ap₂ (λ (x y : List ℕ). differing x y % 2) f.whole g.whole ∙ even-difference f.field g.field f.bytes g.bytes (same_size p q f g e)

not-nearby : (p q : List ℕ) → IsFrame p → IsFrame q → length p ≡ length q → last_four p ≡ last_four q → (i : ℕ) → AgreeBut i (field_of p) (field_of q) → field_of p ≡ field_of q
not-nearby p q f g e l i h =
    the_field p f
    ∙ no-neighbours f.field g.field i f.bytes g.bytes (same_size p q f g e) (ap last_four (sym f.whole) ∙ l ∙ ap last_four g.whole)
    (subst₂ (AgreeBut i) (the_field p f) (the_field q g) h)
    ∙ sym (the_field q g)

pub demand-3 : NeverTakenForEachOther
demand-3 p q ps qs h k hs ks =
    let f = is-frame (limits_of h.0) p h.1 in
    let g = is-frame (limits_of k.0) q k.1 in
    record {
      by_form = by-form p q;
      by_fields = by-fields p q;
      evenly = evenly p q f g;
      not_nearby = not-nearby p q f g;
      in_one_way = one_way ps qs (all-frames ps hs) (all-frames qs ks);
    }
