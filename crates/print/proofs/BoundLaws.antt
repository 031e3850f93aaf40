-- How long lines can be: four characters for each byte of the record, of the data field, of the packet.
use Rattle.std.specs.Prelude.{Ok}
use Prim.Native.Nat.{ℕ, zero, suc, ◌+◌, ◌-◌, ◌*◌, ◌≤◌}
use native.Mathlib.Omega.{arith}
use mathlib.Core.Path.{◌≡◌, refl, ap}
use mathlib.Core.List.{List, [], ◌∷◌, ◌++◌}
use lib.ListN.{length, length-append, drop, length-take, length-drop}
use Rattle.wire.specs.declared.Limits.{Limits}
use Rattle.wire.specs.Numbers.{Bytes}
use Rattle.wire.specs.Sequences.{joined}
use Rattle.wire.specs.Reading.{got}
use Rattle.wire.specs.Answers.{Answer, on_accepted}
use Rattle.wire.proofs.Widths.{bytes_take, bytes_drop}
use Rattle.wire.proofs.Accepting.{on_accepted-accepted}
use Rattle.avl.specs.declared.Widths.{Widths}
use Rattle.avl.specs.Codecs.{widths_of, kinds}
use Rattle.avl.specs.Records.{AvlRecord, GroupsRules, record_bytes}
use Rattle.avl.specs.RecordReader.{plain_record}
use Rattle.avl.specs.DataField.{AvlData, read_data}
use Rattle.avl.proofs.Inversion.{record-read, plain_size}
use Rattle.avl.proofs.RecordLaws.{groups-exact}
use Rattle.avl.proofs.FieldLaws.{FieldOf}
use Rattle.avl.specs.Narrow.{Narrow}
use Rattle.walk.proofs.WalkLaws.{narrow}
use Rattle.packet.specs.DataPackets.{read_packet}
use Rattle.packet.proofs.FieldLaws.{packet-field}
use Rattle.datagram.specs.Datagrams.{read_datagram}
use Rattle.datagram.proofs.FieldLaws.{datagram-field}
use Rattle.element.specs.Elements.{fixed_size, nth}
use Rattle.lookup.specs.Places.{Placed, place_records}
use Rattle.lookup.specs.Lookups.{Source, tcp_source, udp_source, placed_record, of_record}
use Rattle.traverse.specs.Texts.{record_text, records_text}
use Rattle.traverse.proofs.SizeLaws.{record-size, field-size}
use Rattle.line.specs.Lines.{line_bytes}
use Rattle.line.specs.RecordLines.{record_line, line_of, line_of_packet, line_of_datagram, lines_of, lines_of_packet, lines_of_datagram}
use Rattle.print.specs.Printing.{printed, line_text, lines_text}
use Rattle.print.proofs.ElementLaws.{element-size}
use Rattle.print.proofs.LineLaws.{leading-most, head_end, line-long}

-- ---- a record's line beside its bytes

head-size : (w : Widths) (at : ℕ) (r : AvlRecord) → 1 * length (head_end at r) ≤ 4 * fixed_size w
unfolding fixed_size
head-size w at r = omega (arith, leading-most r.fixed.timestamp r.fixed.longitude r.fixed.latitude r.fixed.speed)

pub line-size : (w : Widths) → Narrow w → (at : ℕ) (r : AvlRecord) → GroupsRules w (kinds w) r.groups → length (line_text w at r) ≤ 4 * length (record_bytes w r)
line-size w few at r h =
    omega (arith, line-long w at r, record-size 1 4 printed w (element-size w few.named) head_end (head-size w) at r h)

-- a line fits where the lent bytes are four times the record's
pub line-fits : (w : Widths) → Narrow w → (s : List ℕ) → Bytes s → (x : AvlRecord) (n : ℕ) → plain_record w s 0 ≡ got x n → length (line_bytes (record_line w x)) ≤ 4 * length s
line-fits w few s b x n e =
    let k = (record-read w s 0).if-got _ _ e in
    let keep = (((groups-exact w (kinds w)).sound s (k.start + w.count) b k.inside).if-got _ _ k.groups_read).1 in
    let size = plain_size w s 0 b (omega arith) e in
    omega (arith, line-size w few 0 x keep, size.0, size.1)

-- ---- the lines of a data field

pub lines-laid : (w : Widths) (at : ℕ) (rs : List AvlRecord) → records_text (line_text w) w at rs ≡ joined (λ r. line_bytes (record_line w r)) rs
unfolding records_text
lines-laid w at [] = refl
lines-laid w at (r ∷ rs) = ap (λ (l : List ℕ). line_bytes (record_line w r) ++ l) (lines-laid w (at + length (record_bytes w r)) rs)

lines_long : (w : Widths) (at : ℕ) (rs : List AvlRecord) → length (records_text (line_text w) w at rs) ≡ length (records_text (record_text printed w head_end) w at rs)
unfolding records_text
lines_long w at [] = refl
lines_long w at (r ∷ rs) =
    let next = at + length (record_bytes w r) in
    omega (
      arith,
      line-long w at r,
      lines_long w next rs,
      length-append (line_text w at r) (records_text (line_text w) w next rs),
      length-append (record_text printed w head_end at r) (records_text (record_text printed w head_end) w next rs),
    )

pub lines-size : (longest : ℕ) (d : List ℕ) (a : AvlData) → Bytes d → 3 ≤ length d → read_data longest d ≡ Ok a → length (lines_text a) ≤ 4 * length d
lines-size longest d a b l e =
    let w = widths_of a.codec in
    let records = field-size 1 4 printed w (element-size w (narrow a.codec).named) head_end (head-size w) longest 0 d a refl b l e in
    omega (arith, records, lines_long w 0 a.records, ap length (lines-laid w 0 a.records))

-- ---- the lines of a packet and of a datagram

field_room : {longest n : ℕ} {d : List ℕ} {a : AvlData} → Bytes d → FieldOf longest d a → length d ≤ n → length (lines_text a) ≤ 4 * n
field_room {longest} {n} {d} {a} b k room = omega (arith, room, lines-size longest d a b k.long k.accepts)

module _ (limits : Limits) (p : List ℕ) (b : Bytes p) where
  tcp-room : (x : Source) → tcp_source limits p ≡ Ok x → length (lines_of x) ≤ 4 * length p
  unfolding tcp_source
  tcp-room x e =
      let i = on_accepted-accepted (read_packet limits p) _ e in
      let same : ◌≡◌ {A = Source} (record { content = i.0; base = 10 }) x = cc i.2 in
      let room = field_room {n = length p} (bytes_take (length p - 4 - 8) (drop 8 p) (bytes_drop 8 p b)) (packet-field limits p i.1 b) (simp (length-take, length-drop) (omega arith)) in
      omega (arith, room, ap (λ (y : Source). length (lines_of y)) same)

  udp-room : (x : Source) → udp_source limits p ≡ Ok x → length (lines_of x) ≤ 4 * length p
  unfolding udp_source
  udp-room x e =
      let i = on_accepted-accepted (read_datagram limits p) _ e in
      let same : ◌≡◌ {A = Source} (record { content = i.0.payload; base = 25 }) x = cc i.2 in
      let room = field_room {n = length p} (bytes_take (length p - 23) (drop 23 p) (bytes_drop 23 p b)) (datagram-field limits p i.1 b) (simp (length-take, length-drop) (omega arith)) in
      omega (arith, room, ap (λ (y : Source). length (lines_of y)) same)

-- one line is no longer than all
one_of_all : (w : Widths) (at n : ℕ) (rs : List AvlRecord) (r : Placed) → nth n (place_records w at rs) ≡ Ok r
    → length (line_bytes (record_line w r.content)) ≤ length (joined (λ r. line_bytes (record_line w r)) rs)
unfolding nth place_records
one_of_all w at n [] r e = absurd (let z : ◌≡◌ {A = ℕ} 0 1 = cc in omega arith)
one_of_all w at zero (x ∷ rs) r e =
    let same : ◌≡◌ {A = Placed} (record { start = at; content = x }) r = cc in
    let line = ap (λ (y : Placed). length (line_bytes (record_line w y.content))) same in
    omega (arith, line, length-append (line_bytes (record_line w x)) (joined (λ r. line_bytes (record_line w r)) rs))
one_of_all w at (suc n) (x ∷ rs) r e =
    omega (
      arith,
      one_of_all w (at + length (record_bytes w x)) n rs r e,
      length-append (line_bytes (record_line w x)) (joined (λ r. line_bytes (record_line w r)) rs),
    )

lines-room : {n : ℕ} (source : Answer Source) {t : List ℕ} → ((x : Source) → source ≡ Ok x → length (lines_of x) ≤ n) → on_accepted source (λ x. Ok (lines_of x)) ≡ Ok t → length t ≤ n
lines-room source {t} room e =
    let i = on_accepted-accepted source _ e in
    let same : lines_of i.0 ≡ t = cc i.2 in
    omega (arith, room i.0 i.1, ap length same)

line-room : {n : ℕ} (source : Answer Source) (k : ℕ) {t : List ℕ} → ((x : Source) → source ≡ Ok x → length (lines_of x) ≤ n) → of_record line_of source k ≡ Ok t → length t ≤ n
unfolding placed_record
line-room source k {t} room e =
    let i = on_accepted-accepted source _ e in
    let x = i.0 in
    let w = widths_of x.content.codec in
    let j = on_accepted-accepted (placed_record x k) _ i.2 in
    let same : line_bytes (record_line w j.0.content) ≡ t = cc j.2 in
    omega (arith, room x i.1, ap length same, one_of_all w x.base k x.content.records j.0 j.1)

module _ (limits : Limits) (p t : List ℕ) (b : Bytes p) where
  pub packet-line-room : (n : ℕ) → line_of_packet limits p n ≡ Ok t → length t ≤ 4 * length p
  unfolding line_of_packet
  packet-line-room n e = line-room (tcp_source limits p) n (tcp-room limits p b) e

  pub datagram-line-room : (n : ℕ) → line_of_datagram limits p n ≡ Ok t → length t ≤ 4 * length p
  unfolding line_of_datagram
  datagram-line-room n e = line-room (udp_source limits p) n (udp-room limits p b) e

  pub packet-lines-room : lines_of_packet limits p ≡ Ok t → length t ≤ 4 * length p
  unfolding lines_of_packet
  packet-lines-room e = lines-room (tcp_source limits p) (tcp-room limits p b) e

  pub datagram-lines-room : lines_of_datagram limits p ≡ Ok t → length t ≤ 4 * length p
  unfolding lines_of_datagram
  datagram-lines-room e = lines-room (udp_source limits p) (udp-room limits p b) e
