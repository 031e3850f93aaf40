-- The claim on families: the rules are monotone in the limits, and every call is made of what its judge reads.
use Rattle.std.specs.Prelude.{Err, Ok}
use Prim.Native.Nat.{ℕ, ◌+◌, ◌^◌, ◌≤◌, ◌<◌}
use native.Mathlib.Omega.{arith}
use mathlib.Core.Path.{◌≡◌, refl, sym, ap, ◌∙◌, subst}
use mathlib.Core.Bool.{true, false}
use mathlib.Core.List.{List, [], ◌∷◌, ◌++◌}
use lib.ListN.{length, drop, length-drop}
use lib.Dec.{leb, eqb, lit≤, lit<}
use borrow.Author.Tests.{le-leb, leb-true, ne_eqb}
use Rattle.wire.specs.declared.Limits.{Limits}
use Rattle.wire.specs.Limits.{limits_of, is_known, Below}
use Rattle.wire.specs.Numbers.{Bytes, number_at, be}
use Rattle.wire.specs.Sequences.{All}
use Rattle.wire.specs.Answers.{Answer, refusal, check_at, on_accepted, from}
use Rattle.wire.proofs.LimitLaws.{limits-most, first-second}
use Rattle.wire.proofs.Widths.{bytes_drop}
use Rattle.wire.proofs.Accepting.{check-accepted, check-passed, on_accepted-accepted, on_accepted-passed, on_accepted-refused}
use Rattle.checksum.specs.Crc.{crc}
use Rattle.frame.specs.Frame.{FrameRules, field_length, field_of, unframe}
use Rattle.frame.proofs.FrameLaws.{frame-exact}
use Rattle.avl.specs.declared.Widths.{Widths}
use Rattle.avl.specs.Codecs.{widths_of}
use Rattle.avl.specs.Records.{AvlRecord, RecordRules, element_count}
use Rattle.avl.specs.DataField.{AvlData, DataRules, read_data}
use Rattle.packet.specs.DataPackets.{packet_bytes, DataPacket, read_packet, answer_packet, acknowledged, tcp_acknowledgement}
use Rattle.packet.proofs.PacketLaws.{packet-exact}
use Rattle.datagram.specs.Datagrams.{Datagram, read_header, judge_header, read_datagram, answer_datagram, udp_acknowledgement}
use Rattle.datagram.proofs.DatagramLaws.{datagram-exact}
use Rattle.command.specs.Layouts.{types, layout_of, member}
use Rattle.command.specs.Commands.{Command, command_field, mismatch, read_command, answer_command}
use Rattle.command.specs.Writing.{given_imei, given_time, packet_of, bytes_within, command_bytes}
use Rattle.command.proofs.PacketLaws.{command-exact}
use Rattle.lookup.specs.Lookups.{Source, LastKnown, tcp_source, udp_source, value_in_last, in_older, or_else, last_known}
use Rattle.tlv.specs.Decoding.{decoded}
use Rattle.tlv.specs.PacketOf.{read_form, form_of_packet, form_of_datagram, packet_within, packet_of_form}
use Rattle.tlv.proofs.FormLaws.{form-decoded}
use Rattle.tlv.proofs.PacketOfLaws.{form-exact, form-refusal}
use Rattle.contents.specs.Contents.{contents_of_packet, contents_of_datagram}
use Rattle.line.specs.RecordLines.{line_of_packet, line_of_datagram, lines_of_packet, lines_of_datagram}
use Rattle.claims.specs.Families.{SamePacket, SameDatagram, SameCommand, AcceptedToo, Never12, Says21, FamiliesKept}
use Rattle.claims.proofs.NeverLaws.{NeverSays, says-check, says_then, says-from, says-told, says-given, never-header, data-never12}

-- ---- the rules

all_above : {longest more : ℕ} (w : Widths) (rs : List AvlRecord) → longest ≤ more → All (RecordRules longest w) rs → All (RecordRules more w) rs
all_above w [] h k = tt
all_above w (r ∷ rs) h k =
    let x = k.0 in
    (record { fixed_keep = x.fixed_keep; total_fits = x.total_fits; groups_keep = x.groups_keep; size = omega (arith, x.size, h) }, all_above w rs h k.1)

data-above : {longest more : ℕ} (a : AvlData) → longest ≤ more → DataRules longest a → DataRules more a
data-above a h k =
    record { codec_known = k.codec_known; some_records = k.some_records; count_fits = k.count_fits; each = all_above (widths_of a.codec) a.records h k.each }

frame-above : {largest more : ℕ} {d : List ℕ} → largest ≤ more → FrameRules largest d → FrameRules more d
frame-above h k = record { bytes = k.bytes; least = k.least; most = omega (arith, k.most, h); counted = k.counted }

module _ (a b : Limits) (order : Below a b) where
  -- ---- the judges

  packet-too : (p : List ℕ) (x : AvlData) → Bytes p → read_packet a p ≡ Ok x → read_packet b p ≡ Ok x
  packet-too p x h e =
      let k = (packet-exact a p x h).0 e in
      (packet-exact b p x h).1 (record { rules = data-above x order.records k.rules; frame = frame-above order.packets k.frame; whole = k.whole })

  datagram-too : (p : List ℕ) (g : Datagram) → Bytes p → read_datagram a p ≡ Ok g → read_datagram b p ≡ Ok g
  datagram-too p g h e =
      let k = (datagram-exact a p g h).0 e in
      (datagram-exact b p g h).1 (record {
        header = k.header;
        payload = data-above g.payload order.records k.payload;
        most = omega (arith, k.most, order.datagrams);
        counted = k.counted;
        whole = k.whole;
      })

  command-too : (p : List ℕ) (c : Command) → Bytes p → read_command a p ≡ Ok c → read_command b p ≡ Ok c
  command-too p c h e =
      let k = (command-exact a p c h).0 e in
      (command-exact b p c h).1 (record { row = k.row; rules = k.rules; frame = frame-above order.packets k.frame; whole = k.whole })

  -- ---- the calls

  same-packet : (p : List ℕ) (x : AvlData) → Bytes p → read_packet a p ≡ Ok x → SamePacket a b p
  unfolding answer_packet tcp_acknowledgement tcp_source form_of_packet contents_of_packet line_of_packet lines_of_packet
  same-packet p x h e =
      let same : read_packet b p ≡ read_packet a p = packet-too p x h e ∙ sym e in
      let least = ((packet-exact a p x h).0 e).frame.most in
      let more = ((packet-exact b p x h).0 (packet-too p x h e)).frame.most in
      record {
        read = same;
        answer = rw same refl;
        acknowledgement = check-passed _ 21 _ _ (le-leb 1 b.largest (omega (arith, more)))
            ∙ ap (λ r. Ok (be 4 (acknowledged r))) same
            ∙ sym (check-passed _ 21 _ _ (le-leb 1 a.largest (omega (arith, least))));
        source = rw same refl;
        form = rw same refl;
        table = rw same refl;
        line = λ n. rw same refl;
        lines = rw same refl;
      }

  same-datagram : (p : List ℕ) (g : Datagram) → Bytes p → read_datagram a p ≡ Ok g → SameDatagram a b p
  unfolding answer_datagram udp_acknowledgement udp_source form_of_datagram contents_of_datagram line_of_datagram lines_of_datagram
  same-datagram p g h e =
      let same : read_datagram b p ≡ read_datagram a p = datagram-too p g h e ∙ sym e in
      record {
        read = same;
        answer = rw same refl;
        acknowledgement = rw same refl;
        source = rw same refl;
        form = rw same refl;
        table = rw same refl;
        line = λ n. rw same refl;
        lines = rw same refl;
      }

  same-command : (p : List ℕ) (c : Command) → Bytes p → read_command a p ≡ Ok c → SameCommand a b p
  unfolding answer_command
  same-command p c h e =
      let same : read_command b p ≡ read_command a p = command-too p c h e ∙ sym e in
      record { read = same; answer = rw same refl }

  source-too : (p : List ℕ) (x : Source) → Bytes p → tcp_source a p ≡ Ok x → tcp_source b p ≡ Ok x
  unfolding tcp_source
  source-too p x h e =
      let i = on_accepted-accepted (read_packet a p) _ e in
      on_accepted-passed (read_packet b p) _ (packet-too p i.0 h i.1) ∙ i.2

  known-too : (id : ℕ) (newer older : List ℕ) (k : LastKnown) → Bytes newer → Bytes older
      → last_known id (tcp_source a newer) (tcp_source a older) ≡ Ok k → last_known id (tcp_source b newer) (tcp_source b older) ≡ Ok k
  unfolding last_known or_else in_older
  known-too id newer older k h g e =
      let i = on_accepted-accepted (tcp_source a newer) _ e in
      on_accepted-passed (tcp_source b newer) _ (source-too newer i.0 h i.1) ∙ go (on_accepted (value_in_last id i.0) (λ f. Ok (record { older = false; found = f }))) i.2
    where
      go : (r : Answer LastKnown) → or_else r (in_older id (tcp_source a older)) ≡ Ok k → or_else r (in_older id (tcp_source b older)) ≡ Ok k
      go (Ok l) e = e
      go (Err x) e = let j = on_accepted-accepted (tcp_source a older) _ e in on_accepted-passed (tcp_source b older) _ (source-too older j.0 g j.1) ∙ j.2

  -- ---- the writers

  form-too : b.longest < 256 ^ 2 → (f p : List ℕ) → Bytes f → packet_of_form a f ≡ Ok p → packet_of_form b f ≡ Ok p
  unfolding packet_of_form packet_within
  form-too small f p h e =
      let c = check-accepted (is_known a.largest) 21 _ _ e in
      let known : 1 ≤ a.largest = leb-true 1 a.largest c.0 in
      let i = on_accepted-accepted (read_form a f) _ c.1 in
      let k = (form-exact a f i.0 h (omega (arith, order.records, small))).0 i.1 in
      let packet = k.packet in
      let above : DataPacket b i.0 (packet_bytes i.0) = record { rules = data-above i.0 order.records packet.rules; frame = frame-above order.packets packet.frame; whole = packet.whole } in
      check-passed _ 21 _ _ (le-leb 1 b.largest (omega (arith, known, order.packets)))
      ∙ on_accepted-passed (read_form b f) _ ((form-exact b f i.0 h small).1 (record { packet = above; form = k.form }))
      ∙ i.2

  written-too : (codec type : ℕ) (imei : List ℕ) (time : ℕ) (text p : List ℕ) → command_bytes a codec type imei time text ≡ Ok p → command_bytes b codec type imei time text ≡ Ok p
  unfolding command_bytes bytes_within packet_of
  written-too codec type imei time text p e =
      let c = check-accepted (is_known a.largest) 21 _ _ e in
      let known : 1 ≤ a.largest = leb-true 1 a.largest c.0 in
      let row = on_accepted-accepted (layout_of codec) _ c.1 in
      let l = row.0 in
      let kind = check-accepted (member type (types l)) 13 _ _ row.2 in
      let given = on_accepted-accepted (given_imei l imei) _ kind.1 in
      let x : Command = record { codec = codec; type = type; imei = given.0; time = given_time l time; text = text } in
      let empty = check-accepted (mismatch type text) 14 _ _ given.2 in
      let short = check-accepted (leb (length (command_field l x) + 12) a.largest) 14 _ _ empty.1 in
      let most : length (command_field l x) + 12 ≤ a.largest = leb-true _ _ short.0 in
      check-passed _ 21 _ _ (le-leb 1 b.largest (omega (arith, known, order.packets)))
      ∙ on_accepted-passed (layout_of codec) _ row.1
      ∙ check-passed (member type (types l)) 13 _ _ kind.0
      ∙ on_accepted-passed (given_imei l imei) _ given.1
      ∙ check-passed (mismatch type text) 14 _ _ empty.0
      ∙ check-passed _ 14 _ _ (le-leb (length (command_field l x) + 12) b.largest (omega (arith, most, order.packets)))
      ∙ short.1

  in-order : b.longest < 256 ^ 2 → AcceptedToo a b
  in-order small =
      record {
        packets = same-packet;
        datagrams = same-datagram;
        commands = same-command;
        known = known-too;
        forms = form-too small;
        written = written-too;
      }

-- ---- number 12

frame-never12 : (largest : ℕ) (p : List ℕ) → NeverSays 12 (unframe largest p)
unfolding unframe
frame-never12 largest p =
    says-check (is_known largest) 21 _ _ (λ e. omega (arith, e))
    (says-check (leb 8 (length p)) 1 _ _ (λ e. omega (arith, e))
    (says-check (eqb (number_at p 0 4) 0) 2 _ _ (λ e. omega (arith, e))
    (says-check (leb 3 (field_length p)) 3 _ _ (λ e. omega (arith, e))
    (says-check (leb (field_length p + 12) largest) 3 _ _ (λ e. omega (arith, e))
    (says-check (eqb (length p) (field_length p + 12)) 4 _ _ (λ e. omega (arith, e))
    (says-check (eqb (number_at p (8 + field_length p) 4) (crc (field_of p))) 5 _ _ (λ e. omega (arith, e)) (says-given (field_of p))))))))

header-never12 : (largest : ℕ) (p : List ℕ) → NeverSays 12 (judge_header largest p)
unfolding judge_header
header-never12 largest p =
    says-check (is_known largest) 21 _ _ (λ e. omega (arith, e))
    (says-check (leb 26 (length p)) 1 _ _ (λ e. omega (arith, e))
    (says-check (leb (length p) largest) 3 _ _ (λ e. omega (arith, e))
    (says-check (eqb (length p) (number_at p 0 2 + 2)) 4 _ _ (λ e. omega (arith, e))
    (says-told 0 (read_header p 2) (never-header p (λ e. omega (arith, e)) 2 (λ e. omega (arith, e)))))))

module _ (limits : Limits) (large : limits.largest ≤ limits.longest) (wide : limits.datagram ≤ limits.longest) where
  packet-never12 : (p : List ℕ) → Bytes p → NeverSays 12 (read_packet limits p)
  unfolding read_packet
  packet-never12 p h =
      says_then (unframe limits.largest p) _ (frame-never12 limits.largest p) (λ d e.
      let f = ((frame-exact limits.largest p d h).0 e).0 in
      says-from 8 _ (data-never12 limits.longest d f.bytes (omega (arith, f.most, large))))

  datagram-never12 : (p : List ℕ) → Bytes p → NeverSays 12 (read_datagram limits p)
  unfolding read_datagram judge_header
  datagram-never12 p h =
      says_then (judge_header limits.datagram p) _ (header-never12 limits.datagram p) (λ g e.
      let c₀ = check-accepted (is_known limits.datagram) 21 _ _ e in
      let c₁ = check-accepted (leb 26 (length p)) 1 _ _ c₀.1 in
      let c₂ = check-accepted (leb (length p) limits.datagram) 3 _ _ c₁.1 in
      says_then (from 23 (read_data limits.longest (drop 23 p))) _
      (says-from 23 _ (data-never12 limits.longest (drop 23 p) (bytes_drop 23 p h) (omega (arith, length-drop 23 p, leb-true (length p) limits.datagram c₂.0, wide))))
      (λ a f. says-given _))

  never12 : Never12 limits
  never12 = record { packets = λ p r h. packet-never12 p h r; datagrams = λ p r h. datagram-never12 p h r }

-- ---- no form

few : (longest : ℕ) (w : Widths) (first rest : List AvlRecord) (r : AvlRecord) → All (RecordRules longest w) (first ++ (r ∷ rest)) → element_count r.groups < 256 ^ w.count
few longest w [] rest r h = h.0.total_fits
few longest w (x ∷ first) rest r h = few longest w first rest r h.1

or-refused : (limits : Limits) (f : List ℕ) → ((a : AvlData) → read_form limits f ≡ Ok a → ⊥) → packet_within limits f ≡ Err (refusal 17)
unfolding packet_within
or-refused limits f h = go (read_form limits f) refl
  where
    go : (r : Answer AvlData) → read_form limits f ≡ r → packet_within limits f ≡ Err (refusal 17)
    go (Ok a) e = absurd (h a e)
    go (Err x) e = on_accepted-refused (read_form limits f) _ e ∙ ap Err (form-refusal limits f x e)

no-form : (family : ℕ) (f : List ℕ) (first rest : List AvlRecord) (r : AvlRecord) → is_known (limits_of family).largest ≡ true → Bytes f
    → (decoded f).records ≡ first ++ (r ∷ rest) → 256 ^ (widths_of (decoded f).codec).count ≤ element_count r.groups
    → packet_of_form (limits_of family) f ≡ Err (refusal 17)
unfolding packet_of_form
no-form family f first rest r known b is many =
    let limits = limits_of family in
    let small : limits.longest < 256 ^ 2 = omega (arith, (limits-most family).records) in
    check-passed (is_known limits.largest) 21 _ _ known
    ∙ or-refused limits f (λ a e.
    let k = (form-exact limits f a b small).0 e in
    let again : decoded f ≡ a = ap decoded k.form ∙ form-decoded limits.longest a small k.packet.rules in
    let rules = subst (DataRules limits.longest) (sym again) k.packet.rules in
    let each = subst (All (RecordRules limits.longest (widths_of (decoded f).codec))) is rules.each in
    omega (arith, few limits.longest (widths_of (decoded f).codec) first rest r each, many))

-- ---- number 21

no-family : (family : ℕ) → (family ≡ 1 → ⊥) → (family ≡ 2 → ⊥) → limits_of family ≡ record { largest = 0; datagram = 0; longest = 0 }
unfolding limits_of
no-family family h k = simp (ne_eqb family 1 h, ne_eqb family 2 k)

says-21 : (family : ℕ) → (family ≡ 1 → ⊥) → (family ≡ 2 → ⊥) → Says21 (limits_of family)
unfolding read_packet read_datagram read_command unframe judge_header tcp_acknowledgement packet_of_form command_bytes check_at on_accepted
says-21 family h k =
    rw (no-family family h k)
    (record {
      packets = λ p. refl;
      datagrams = λ p. refl;
      commands = λ p. refl;
      acknowledgements = λ p. refl;
      forms = λ f. refl;
      written = λ codec type imei time text. refl;
    })

pub families-kept : FamiliesKept
unfolding limits_of
families-kept =
    record {
      others = says-21;
      in_order = in-order;
      first_in_second = in-order (limits_of 1) (limits_of 2) first-second (lit< tt);
      unlimited = never12;
      second_never12 = never12 (limits_of 2) (lit≤ tt) (lit≤ tt);
      no_form = no-form;
    }
