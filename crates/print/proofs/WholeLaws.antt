-- Writing lines: that of a record, and those of a packet or a datagram.
use Rattle.std.specs.Prelude.{Err, Ok}
use Rattle.lookup.specs.declared.Part.{Part}
use Prim.Native.Nat.{ℕ, ◌+◌, ◌-◌, ◌*◌, ◌^◌, ◌<◌}
use native.Mathlib.Omega.{arith}
use mathlib.Core.Path.{◌≡◌, refl, sym, ap, ◌∙◌, subst}
use mathlib.Core.List.{List, [], ◌∷◌, append-nil}
use lib.ListN.{length, take, drop, length-take, length-drop}
use lib.Seq.{sets}
use Rattle.wire.specs.declared.Limits.{Limits}
use Rattle.wire.proofs.LimitLaws.{Most}
use Rattle.wire.specs.declared.Refusal.{Refusal}
use Rattle.wire.specs.Numbers.{Bytes}
use Rattle.wire.specs.Reading.{got, Reader, pure, repeat, and_then, ◌>>=◌}
use Rattle.wire.specs.Answers.{Answer}
use Rattle.wire.specs.Buffers.{writing, leaving}
use Rattle.wire.proofs.Widths.{bytes_take, bytes_drop}
use Rattle.wire.proofs.Accepting.{on_accepted-accepted, on_accepted-passed, on_accepted-refused}
use Rattle.avl.specs.declared.Widths.{Widths}
use Rattle.avl.specs.Codecs.{widths_of}
use Rattle.avl.specs.Records.{AvlRecord}
use Rattle.avl.specs.RecordReader.{plain_record}
use Rattle.avl.specs.DataField.{AvlData}
use Rattle.walk.proofs.WalkLaws.{narrow}
use Rattle.packet.specs.DataPackets.{read_packet}
use Rattle.packet.proofs.FieldLaws.{packet-field, packet-most}
use Rattle.datagram.specs.Datagrams.{Datagram, read_datagram}
use Rattle.datagram.proofs.FieldLaws.{datagram-field, datagram-most}
use Rattle.element.specs.Places.{part}
use Rattle.lookup.specs.Lookups.{Source, tcp_source, udp_source}
use Rattle.lookup.specs.Answers.{RecordAt, part_of}
use Rattle.lookup.proofs.PartLaws.{part-readable}
use Rattle.traverse.specs.declared.Moved.{Moved}
use Rattle.traverse.specs.Texts.{records_text}
use Rattle.traverse.specs.Copying.{Ready, Copies}
use Rattle.traverse.specs.Fields.{field_text, Writes, WritesRecords, HasRoom}
use Rattle.traverse.proofs.CopyLaws.{moved}
use Rattle.traverse.proofs.FieldLaws.{Answers, written-field, refused-whole}
use Rattle.line.specs.Lines.{line_bytes}
use Rattle.line.specs.RecordLines.{record_line, lines_of_packet, lines_of_datagram}
use Rattle.print.specs.Printing.{line_text, lines_text, WritesLine, ShortPart}
use Rattle.print.proofs.BoundLaws.{lines-laid, line-fits}

-- ---- the lines of a data field

pub lines_copied : (codec count : ℕ) {w : Widths} {s before after : List ℕ} {r : Moved} → w ≡ widths_of codec
    → Copies (repeat count (plain_record w)) (records_text (line_text w) w) s 0 0 before after r
    → Copies (repeat count (plain_record (widths_of codec))) (field_text lines_text codec) s 0 0 before after r
lines_copied codec count {w} {s} {before} {after} {r} is c =
    let d = subst (λ (v : Widths). Copies (repeat count (plain_record v)) (records_text (line_text v) v) s 0 0 before after r) is c in
    record {
      moves = λ a n k. d.moves a n k ∙ ap (λ (l : List ℕ). moved n (0 + length l)) (lines-laid (widths_of codec) 0 a);
      stores = λ a n k. d.stores a n k ∙ ap (sets before 0) (lines-laid (widths_of codec) 0 a);
    }

-- ---- the line of a record

one-read : {A : Type 0} (m : Reader A) {s : List ℕ} {at n : ℕ} {x : A} → m s at ≡ got x n → repeat 1 m s at ≡ got (x ∷ []) n
unfolding repeat pure ◌>>=◌ and_then
one-read m e = rw e

module _ (codec : ℕ) (s : List ℕ) where
  pub line-ready : Ready (plain_record (widths_of codec)) s 0 0 → Ready (repeat 1 (plain_record (widths_of codec))) s 0 5
  line-ready k =
      record {
        bytes = k.bytes;
        small = k.small;
        inside = k.inside;
        behind = omega arith;
        content = k.content ∷ [];
        next = k.next;
        reads = one-read (plain_record (widths_of codec)) k.reads;
      }

  pub line-enough : Ready (plain_record (widths_of codec)) s 0 0 → HasRoom codec 1 lines_text s (4 * length s)
  line-enough k rs n e =
      let one = one-read (plain_record (widths_of codec)) k.reads in
      let same : k.content ∷ [] ≡ rs = cc in
      let line = line_bytes (record_line (widths_of codec) k.content) in
      omega (
        arith,
        ap (λ (l : List AvlRecord). length (lines_text (record { codec = codec; records = l }))) same,
        ap length (append-nil line),
        line-fits (widths_of codec) (narrow codec) s k.bytes k.content k.next k.reads,
      )

  pub line-written : {before after : List ℕ} {r : Answer ℕ} → WritesRecords codec 1 lines_text s before after r → WritesLine (widths_of codec) s before after r
  line-written {before} h =
      record {
        answer = λ x n e.
            h.answer (x ∷ []) n (one-read (plain_record (widths_of codec)) e)
            ∙ ap (λ (l : List ℕ). writing (Ok l) before) (append-nil (line_bytes (record_line (widths_of codec) x)));
        buffer = λ x n e.
            h.buffer (x ∷ []) n (one-read (plain_record (widths_of codec)) e)
            ∙ ap (λ (l : List ℕ). leaving (Ok l) before) (append-nil (line_bytes (record_line (widths_of codec) x)));
      }

-- ---- by record number

pub part-ready : {p : List ℕ} {codec start end elements : ℕ} → RecordAt p codec start end elements → Bytes p → length p < 2 ^ 32
    → Ready (plain_record (widths_of codec)) (take (end - start) (drop start p)) 0 0
unfolding part
part-ready {p} {codec} {start} {end} h b few =
    let r = part-readable h refl in
    record {
      bytes = bytes_take (end - start) (drop start p) (bytes_drop start p b);
      small = omega (arith, few, length-take (end - start) (drop start p), length-drop start p);
      inside = omega arith;
      behind = omega arith;
      content = r.content;
      next = r.next;
      reads = r.reads;
    }

part-source : (source : Answer Source) (n : ℕ) {q : Answer Part} → q ≡ part_of source n → (codec start end elements : ℕ) → q ≡ Ok (record { codec = codec; start = start; elements = elements; end = end }) → (x : Source) × (source ≡ Ok x)
unfolding part_of
part-source source n e codec start end elements is =
    let i = on_accepted-accepted source _ (sym (sym (is) ∙ e)) in
    (i.0, i.1)

module _ (limits : Limits) (p : List ℕ) (b : Bytes p) (few : Most limits) (n : ℕ) {q : Answer Part} where
  pub packet-short : q ≡ part_of (tcp_source limits p) n → ShortPart p q
  unfolding tcp_source
  packet-short e codec start end elements is =
      let i = part-source (tcp_source limits p) n e codec start end elements is in
      let j = on_accepted-accepted (read_packet limits p) _ i.1 in
      omega (arith, few.packets, packet-most limits p j.1 b)

  pub datagram-short : q ≡ part_of (udp_source limits p) n → ShortPart p q
  unfolding udp_source
  datagram-short e codec start end elements is =
      let i = part-source (udp_source limits p) n e codec start end elements is in
      let j = on_accepted-accepted (read_datagram limits p) _ i.1 in
      omega (arith, few.datagrams, datagram-most limits p j.1 b)

-- ---- all lines

module _ (limits : Limits) (p : List ℕ) where
  pub packet-written : {a : AvlData} → read_packet limits p ≡ Ok a → Bytes p → {before after : List ℕ} {r : Answer ℕ}
      → Writes lines_text (take (length p - 4 - 8) (drop 8 p)) before after r → Answers (lines_of_packet limits p) before after r
  unfolding lines_of_packet tcp_source
  packet-written e b w = written-field (packet-field limits p e b) (on_accepted-passed (tcp_source limits p) _ (on_accepted-passed (read_packet limits p) _ e)) w

  pub packet-refused : {x : Refusal} {before : List ℕ} → read_packet limits p ≡ Err x → Answers (lines_of_packet limits p) before before (Err x)
  unfolding lines_of_packet tcp_source
  packet-refused e = refused-whole (on_accepted-refused (tcp_source limits p) _ (on_accepted-refused (read_packet limits p) _ e))

  pub datagram-written : {g : Datagram} → read_datagram limits p ≡ Ok g → Bytes p → {before after : List ℕ} {r : Answer ℕ}
      → Writes lines_text (take (length p - 23) (drop 23 p)) before after r → Answers (lines_of_datagram limits p) before after r
  unfolding lines_of_datagram udp_source
  datagram-written e b w = written-field (datagram-field limits p e b) (on_accepted-passed (udp_source limits p) _ (on_accepted-passed (read_datagram limits p) _ e)) w

  pub datagram-refused : {x : Refusal} {before : List ℕ} → read_datagram limits p ≡ Err x → Answers (lines_of_datagram limits p) before before (Err x)
  unfolding lines_of_datagram udp_source
  datagram-refused e = refused-whole (on_accepted-refused (udp_source limits p) _ (on_accepted-refused (read_datagram limits p) _ e))
