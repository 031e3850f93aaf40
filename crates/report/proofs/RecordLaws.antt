-- What the table of contents tells of the records that are said.
use Rattle.std.specs.Prelude.{Err, Ok}
use Prim.Native.Nat.{ℕ, suc, ◌+◌, ◌-◌, ◌≤◌, ◌<◌}
use native.Mathlib.Omega.{arith}
use mathlib.Core.Path.{◌≡◌, refl, sym, ap, ◌∙◌, subst}
use mathlib.Core.Bool.{Bool, true, false}
use mathlib.Core.List.{List, ◌++◌}
use lib.ListN.{length, drop}
use Rattle.wire.specs.declared.Refusal.{Refusal}
use Rattle.wire.specs.Numbers.{Bytes}
use Rattle.wire.specs.Limits.{limits_of}
use Rattle.wire.specs.Answers.{Answer, on_accepted}
use Rattle.wire.specs.Buffers.{writing, leaving}
use Rattle.wire.proofs.LimitLaws.{limits-most}
use Rattle.wire.proofs.BufferLaws.{written-fits, writing-done, leaving-done}
use Rattle.wire.proofs.Accepting.{on_accepted-accepted}
use Rattle.avl.specs.DataField.{AvlData}
use Rattle.packet.specs.DataPackets.{read_packet, acknowledged}
use Rattle.packet.proofs.FieldLaws.{packet-most}
use Rattle.datagram.specs.Datagrams.{Datagram, read_datagram, payload_of}
use Rattle.datagram.proofs.FieldLaws.{datagram-most}
use Rattle.lookup.specs.Lookups.{Source, tcp_source}
use Rattle.contents.specs.Words.{title_result, record_of}
use Rattle.contents.specs.Contents.{contents, no_header, contents_of_packet, contents_of_datagram}
use Rattle.contents.specs.Rows.{RowsAhead}
use Rattle.contents.proofs.TableLaws.{packet-room, datagram-room}
use Rattle.contents.proofs.RowLaws.{packet-ahead, datagram-ahead}
use Rattle.report.specs.Shown.{contents_here, records_said}

-- ---- a table that was written

module _ (family : ℕ) (p : List ℕ) (b : Bytes p) where
  -- what is in the buffer, of either kind of input
  ahead : (udp : Bool) (t more : List ℕ) → contents_here family udp p ≡ Ok t
      → ((title_result (t ++ more)).count ≡ records_said family udp p) × RowsAhead p (t ++ more) 2 (title_result (t ++ more)).count
  unfolding contents_here records_said
  ahead true t more e = datagram-ahead (limits_of family) (limits-most family) p t b more e
  ahead false t more e = packet-ahead (limits_of family) (limits-most family) p t b more e

  pub rows-listed : (udp : Bool) (before : List ℕ) {after : List ℕ} {n : ℕ} → Ok n ≡ writing (contents_here family udp p) before → after ≡ leaving (contents_here family udp p) before
      → ((title_result after).count ≡ records_said family udp p) × RowsAhead p after 2 (title_result after).count
  rows-listed udp before {after} e f =
      let g = written-fits (contents_here family udp p) before e in
      let is : after ≡ g.0 ++ drop (length g.0) before = f ∙ ap (λ r. leaving r before) g.1 ∙ leaving-done g.0 before (omega (arith, g.2, g.3)) in
      subst (λ (l : List ℕ). ((title_result l).count ≡ records_said family udp p) × RowsAhead p l 2 (title_result l).count) (sym is) (ahead udp g.0 (drop (length g.0) before) g.1)

  -- ---- a refused input: the buffer is long enough for every table

  accepted-room : (udp : Bool) (t : List ℕ) → contents_here family udp p ≡ Ok t → length t ≤ 640
  unfolding contents_here contents_of_packet contents_of_datagram tcp_source
  accepted-room true t e =
      let i = on_accepted-accepted (read_datagram (limits_of family) p) _ e in
      omega (arith, datagram-room (limits_of family) p t b e, datagram-most (limits_of family) p i.1 b, (limits-most family).datagrams)
  accepted-room false t e =
      let i = on_accepted-accepted (tcp_source (limits_of family) p) _ e in
      let j = on_accepted-accepted (read_packet (limits_of family) p) _ i.1 in
      omega (arith, packet-room (limits_of family) p t b e, packet-most (limits_of family) p j.1 b, (limits-most family).packets)

  abbrev in_packet : AvlData → Source
  in_packet a = record { content = a; base = 10 }

  abbrev in_datagram : Datagram → Source
  in_datagram g = record { content = g.payload; base = 25 }

  none_said : (udp : Bool) {x : Refusal} → contents_here family udp p ≡ Err x → 0 ≡ records_said family udp p
  unfolding contents_here records_said contents_of_packet contents_of_datagram tcp_source payload_of acknowledged on_accepted
  none_said true {x} e = go (read_datagram (limits_of family) p) e
    where
      go : (r : Answer Datagram) → on_accepted r (λ g. Ok (contents g.header (in_datagram g))) ≡ Err x
          → 0 ≡ acknowledged (on_accepted r (λ g. Ok g.payload))
      go (Ok g) e = absurd (let z : ◌≡◌ {A = ℕ} 0 1 = cc in omega arith)
      go (Err y) e = refl
  none_said false {x} e = go (read_packet (limits_of family) p) e
    where
      go : (r : Answer AvlData) → on_accepted (on_accepted r (λ a. Ok (in_packet a))) (λ y. Ok (contents no_header y)) ≡ Err x → 0 ≡ acknowledged r
      go (Ok a) e = absurd (let z : ◌≡◌ {A = ℕ} 0 1 = cc in omega arith)
      go (Err y) e = refl

  pub none-listed : (udp : Bool) (before : List ℕ) {x : Refusal} → length before ≡ 640 → Err x ≡ writing (contents_here family udp p) before → 0 ≡ records_said family udp p
  none-listed udp before {x} long e = go (contents_here family udp p) refl
    where
      go : (r : Answer (List ℕ)) → contents_here family udp p ≡ r → 0 ≡ records_said family udp p
      go (Ok t) is =
          let done = writing-done t before (omega (arith, long, accepted-room udp t is)) in
          absurd (let same : Err x ≡ Ok (length t) = e ∙ ap (λ r. writing r before) is ∙ done in let z : ◌≡◌ {A = ℕ} 0 1 = cc in omega arith)
      go (Err y) is = none_said udp is

-- ---- one record after another

module _ (p t : List ℕ) (at count n : ℕ) (more : n < count) (h : RowsAhead p t at (count - n)) where
  rest : RowsAhead p t at (suc (count - (n + 1)))
  rest = let one : count - n ≡ suc (count - (n + 1)) = omega arith in subst (RowsAhead p t at) one h

  pub row_first : RowsAhead p t at 1
  row_first = (rest.0, rest.1, tt)

  pub row_next : {next : ℕ} → next ≡ at + 4 + (record_of (drop at t)).elements → RowsAhead p t next (count - (n + 1))
  row_next e = subst (λ (i : ℕ). RowsAhead p t i (count - (n + 1))) (sym e) rest.2

pub rows_start : (p t : List ℕ) {count : ℕ} → count ≡ (title_result t).count → RowsAhead p t 2 (title_result t).count → RowsAhead p t 2 (count - 0)
rows_start p t {count} e h = let all : (title_result t).count ≡ count - 0 = omega (arith, e) in subst (RowsAhead p t 2) all h
