-- A whole packet is judged by its own rules, and those that keep them are given back.
use Rattle.std.specs.Prelude.{Ok}
use Prim.Native.Nat.{ℕ, ◌+◌, ◌%◌, ◌<◌}
use native.Mathlib.Omega.{arith}
use mathlib.Core.Path.{◌≡◌, refl, sym, ap, ◌∙◌, subst}
use mathlib.Core.Bool.{Bool, true, false}
use mathlib.Core.List.{List, []}
use lib.ListN.{length, take, drop, get_or}
use lib.Seq.{get_or-take, get_or-drop, take-length}
use lib.Dec.{eqb}
use borrow.Author.Tests.{le-leb, eq-eqb, eqb-true}
use Rattle.wire.specs.declared.Limits.{Limits}
use Rattle.wire.specs.Numbers.{digits, pick}
use Rattle.wire.specs.Envelope.{enclosed, codec_of}
use Rattle.wire.specs.Answers.{is_accepted, on_accepted}
use Rattle.wire.proofs.Accepting.{pick_true, pick-false, check-passed, on_accepted-accepted, on_accepted-passed, from-accepted}
use Rattle.wire.proofs.Placed.{between-bytes, between-whole}
use Rattle.frame.specs.Frame.{framed, FrameRules, field_length, field_of, header, unframe}
use Rattle.frame.proofs.FrameLaws.{Parts, parts, length-framed, frame-complete}
use Rattle.avl.specs.Codecs.{is_data_codec}
use Rattle.avl.specs.DataField.{AvlData, data_bytes}
use Rattle.packet.specs.DataPackets.{DataPacket, read_packet, packet_bytes}
use Rattle.packet.proofs.PacketLaws.{packet-complete}
use Rattle.command.specs.Layouts.{layouts, find_layout, layout_of}
use Rattle.command.specs.Commands.{Command, command_field, CommandPacket, read_field, read_command}
use Rattle.command.proofs.PacketLaws.{command-complete}
use Rattle.stream.specs.Stream.{for_packet, Item, packet, settled, waiting, needed, item_of, judged_packet, judged, next, taken}
use Rattle.stream.proofs.StreamLaws.{needed-long, feed-judged}

module _ (limits : Limits) (p : List ℕ) where
  -- the codec has a row in the table of commands
  pub by-command : is_accepted (layout_of (get_or p 8 0)) ≡ true → judged_packet limits p ≡ on_accepted (read_command limits p) (λ c. Ok p)
  unfolding judged_packet
  by-command row = pick_true _ _ _ row

  -- it has none
  pub by-data : is_accepted (layout_of (get_or p 8 0)) ≡ false → judged_packet limits p ≡ on_accepted (read_packet limits p) (λ a. Ok p)
  unfolding judged_packet
  by-data row = pick-false _ _ _ row

-- ---- a packet by its frame's rules

module _ (largest : ℕ) (d p : List ℕ) (rules : FrameRules largest d) (whole : p ≡ framed d) where
  is_whole : length p ≡ length d + 12
  is_whole = ap length whole ∙ length-framed d

  framed-parts : Parts d p
  framed-parts = parts d p (length p) rules.bytes rules.counted (between-bytes whole (between-whole p))

  -- the first two bytes of the data field
  field_at : (j : ℕ) → j < 3 → get_or p (8 + j) 0 ≡ get_or d j 0
  unfolding field_of
  field_at j h =
      let k = framed-parts in
      let size = k.size in
      sym (get_or-drop 8 p j 0) ∙ sym (get_or-take (field_length p) (drop 8 p) j 0 (omega (arith, h, size, rules.least))) ∙ ap (λ (l : List ℕ). get_or l j 0) k.field

  header_is : header largest p ≡ Ok (length d)
  header_is =
      let k = framed-parts in
      check-passed _ 2 _ _ (eq-eqb _ _ k.zeros)
      ∙ check-passed _ 3 _ _ (le-leb 3 (field_length p) (omega (arith, k.size, rules.least)))
      ∙ check-passed _ 3 _ _ (le-leb (field_length p + 12) largest (omega (arith, k.size, rules.most)))
      ∙ ap Ok k.size

-- ---- packets that keep the rules

-- what holds of the three data codecs holds of each
by-codec : (P : ℕ → Type 0) (n : ℕ) → is_data_codec n ≡ true → P 0x08 → P 0x8E → P 0x10 → P n
unfolding is_data_codec
by-codec P n e p8 p8_e p16 = go (eqb n 0x08) (eqb n 0x8E) refl refl e
  where
    go : (a b : Bool) → eqb n 0x08 ≡ a → eqb n 0x8E ≡ b → pick a true (pick b true (eqb n 0x10)) ≡ true → P n
    go true b q r e = subst P (sym (eqb-true n 0x08 q)) p8
    go false true q r e = subst P (sym (eqb-true n 0x8E r)) p8_e
    go false false q r e = subst P (sym (eqb-true n 0x10 e)) p16

no_row : (n : ℕ) → is_data_codec n ≡ true → is_accepted (layout_of n) ≡ false
unfolding is_accepted layout_of layouts find_layout
no_row n e = by-codec (λ (k : ℕ). is_accepted (layout_of k) ≡ false) n e refl refl refl

module _ (limits : Limits) (p : List ℕ) where
  -- the bytes judged together are the packet
  needed-is : (d : List ℕ) → FrameRules limits.largest d → p ≡ framed d → needed limits for_packet p ≡ Ok (length p)
  needed-is d rules whole =
      let size = is_whole limits.largest d p rules whole in
      needed-long limits p (omega (arith, size))
      ∙ on_accepted-passed (header limits.largest p) _ (header_is limits.largest d p rules whole)
      ∙ ap Ok (sym size)

  taken_is : (d : List ℕ) → FrameRules limits.largest d → p ≡ framed d → judged_packet limits p ≡ Ok p
      → taken limits for_packet [] p ≡ record { used = length p; told = settled (packet p); state = waiting for_packet [] }
  unfolding judged item_of next
  taken_is d rules whole e =
      let size = is_whole limits.largest d p rules whole in
      let item : judged limits for_packet (take (length p) p) ≡ packet p = ap (judged limits for_packet) (take-length p) ∙ ap (item_of packet) e in
      feed-judged limits for_packet [] p (length p) (length p) (needed-is d rules whole) (omega arith) (omega (arith, size)) (omega arith)
      ∙ ap (λ (i : Item). record { used = length p; told = settled i; state = next i }) item

  module _ (a : AvlData) (k : DataPacket limits a p) where
    -- the codec and the number of records
    pub data-bytes : (get_or p 8 0 ≡ a.codec) × (get_or p 9 0 ≡ length a.records)
    unfolding packet_bytes data_bytes enclosed digits
    data-bytes =
        let byte : a.codec % 256 ≡ a.codec = by-codec (λ (n : ℕ). n % 256 ≡ n) a.codec k.rules.codec_known refl refl refl in
        let count : length a.records % 256 ≡ length a.records = omega (arith, k.rules.count_fits) in (
          field_at limits.largest (data_bytes a) p k.frame k.whole 0 (omega arith) ∙ byte,
          field_at limits.largest (data_bytes a) p k.frame k.whole 1 (omega arith) ∙ count,
        )

    pub data-given : taken limits for_packet [] p ≡ record { used = length p; told = settled (packet p); state = waiting for_packet [] }
    unfolding packet_bytes
    data-given = taken_is (data_bytes a) k.frame k.whole (by-data limits p (ap (λ (n : ℕ). is_accepted (layout_of n)) data-bytes.0 ∙ no_row a.codec k.rules.codec_known) ∙ on_accepted-passed (read_packet limits p) _ (packet-complete limits p a k))

  module _ (c : Command) (k : CommandPacket limits c p) where
    has-row : is_accepted (layout_of (get_or p 8 0)) ≡ true
    unfolding read_command read_field codec_of is_accepted
    has-row =
        let d = command_field k.row c in
        let i = on_accepted-accepted (unframe limits.largest p) _ (command-complete limits p c k) in
        let same : i.0 ≡ d = cc (i.1, ap (unframe limits.largest) k.whole, frame-complete limits.largest d k.frame) in
        let row = on_accepted-accepted (layout_of (get_or i.0 0 0)) _ (from-accepted 8 _ i.2) in
        let first : get_or p 8 0 ≡ get_or i.0 0 0 = field_at limits.largest d p k.frame k.whole 0 (omega arith) ∙ ap (λ (l : List ℕ). get_or l 0 0) (sym same) in
        ap (λ (n : ℕ). is_accepted (layout_of n)) first ∙ ap is_accepted row.1

    pub command-given : taken limits for_packet [] p ≡ record { used = length p; told = settled (packet p); state = waiting for_packet [] }
    command-given = taken_is (command_field k.row c) k.frame k.whole (by-command limits p has-row ∙ on_accepted-passed (read_command limits p) _ (command-complete limits p c k))
