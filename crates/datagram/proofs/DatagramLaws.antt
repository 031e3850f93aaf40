-- The judge of a datagram accepts exactly what keeps the rules, and a datagram carries one thing.
use Rattle.std.specs.Prelude.{Ok}
use Prim.Native.Nat.{ℕ, ◌+◌, ◌^◌, ◌≤◌, ◌<◌}
use native.Mathlib.Omega.{arith}
use mathlib.Core.Path.{◌≡◌, refl, sym, ap, ap₂, ◌∙◌, subst}
use mathlib.Core.Logic.{◌↔◌}
use mathlib.Core.List.{List, ◌++◌, append-nil}
use lib.ListN.{length, drop, length-append, length-drop}
use lib.Seq.{drop-length}
use lib.Dec.{eqb, leb}
use borrow.Author.Tests.{le-leb, leb-true, eq-eqb, eqb-true}
use Rattle.wire.specs.declared.Limits.{Limits}
use Rattle.wire.specs.Numbers.{Bytes, number_at, be}
use Rattle.wire.specs.Reading.{got, pure, number}
use Rattle.wire.specs.Imei.{read_imei}
use Rattle.wire.proofs.Widths.{length_digits, number_lt, number-be, be-number, bytes_drop}
use Rattle.wire.proofs.Placed.{between_join, between_split, between-moved, between-bytes, between-whole}
use Rattle.wire.proofs.Enclosed.{length-enclosed}
use Rattle.wire.proofs.Exactness.{meets-then, meets-pure, then-got, Exact, number-exact}
use Rattle.wire.proofs.Accepting.{check-accepted, check-passed, on_accepted-accepted, on_accepted-passed, from-accepted, from-passed, told-accepted, told-got}
use Rattle.wire.proofs.ImeiText.{imei-exact, length-imei_text}
use Rattle.avl.specs.DataField.{AvlData, data_bytes, read_data}
use Rattle.avl.proofs.DataLaws.{data-exact, data-complete}
use Rattle.datagram.specs.declared.Header.{Header}
use Rattle.datagram.specs.Datagrams.{Datagram, header_bytes, content_bytes, datagram_bytes, HeaderRules, UdpPacket, read_header, judge_header, read_datagram}

header-exact : Exact read_header header_bytes HeaderRules
unfolding read_header header_bytes pure
header-exact =
    record {
      sound = λ s at h i.
          meets-then (number 2) _ s at ((number-exact 2).sound s at h i) (λ packet_id n₁ k₁.
          meets-then (number 1) _ s n₁ ((number-exact 1).sound s n₁ h k₁.0.inside) (λ unused n₂ k₂.
          meets-then (number 1) _ s n₂ ((number-exact 1).sound s n₂ h k₂.0.inside) (λ avl_id n₃ k₃.
          meets-then read_imei _ s n₃ (imei-exact.sound s n₃ h k₃.0.inside) (λ imei n₄ k₄.
          meets-pure _ s n₄ (
            between_join k₁.0 (between_join k₂.0 (between_join k₃.0 k₄.0)),
            record { packet_fits = k₁.1; unused_fits = k₂.1; avl_fits = k₃.1; imei_range = k₄.1 },
          )))));
      complete = λ s at x next h f.
          let a = between_split (be 2 x.packet) f in
          let b = between_split (be 1 x.unused) a.1 in
          let c = between_split (be 1 x.avl) b.1 in
          then-got (number 2) _ s at ((number-exact 2).complete s at _ _ h.packet_fits a.0)
          ∙ then-got (number 1) _ s _ ((number-exact 1).complete s _ _ _ h.unused_fits b.0)
          ∙ then-got (number 1) _ s _ ((number-exact 1).complete s _ _ _ h.avl_fits c.0)
          ∙ then-got read_imei _ s _ (imei-exact.complete s _ x.imei next h.imei_range c.1);
    }

pub length-header : (x : Header) → length (header_bytes x) ≡ 21
unfolding header_bytes
length-header x = simp (length-append, length_digits, length-imei_text)

pub length-datagram : (g : Datagram) → length (datagram_bytes g) ≡ length (content_bytes g) + 2
unfolding datagram_bytes
length-datagram g = simp (length-append, length_digits) (omega arith)

data-long : (a : AvlData) → 3 ≤ length (data_bytes a)
unfolding data_bytes
data-long a = simp length-enclosed (omega arith)

datagram-sound : (limits : Limits) (p : List ℕ) (g : Datagram) → Bytes p → read_datagram limits p ≡ Ok g → UdpPacket limits g p
unfolding read_datagram judge_header content_bytes datagram_bytes
datagram-sound limits p g h e =
    let c₄ = on_accepted-accepted (judge_header limits.datagram p) _ e in
    let c₀ = check-accepted (leb 1 limits.datagram) 21 _ _ c₄.1 in
    let c₁ = check-accepted (leb 26 (length p)) 1 _ _ c₀.1 in
    let c₂ = check-accepted (leb (length p) limits.datagram) 3 _ _ c₁.1 in
    let c₃ = check-accepted (eqb (length p) (number_at p 0 2 + 2)) 4 _ _ c₂.1 in
    let c₅ = told-accepted _ _ c₃.1 in
    let c₆ = on_accepted-accepted _ _ c₄.2 in
    let long : 26 ≤ length p = leb-true _ _ c₁.0 in
    let counted : length p ≡ number_at p 0 2 + 2 = eqb-true _ _ c₃.0 in
    let k = (header-exact.sound p 2 h (omega arith)).if-got _ _ c₅.1 in
    let d = (data-exact limits.longest (drop 23 p) c₆.0 (bytes_drop 23 p h) (simp length-drop (omega arith))).0 (from-accepted 23 _ c₆.1) in
    let x : Datagram = record { header = c₄.0; payload = c₆.0 } in
    let end : c₅.0 ≡ 23 = omega (arith, k.0.size, length-header c₄.0) in
    let rest : drop 2 p ≡ content_bytes x = k.0.layout ∙ ap (λ (l : List ℕ). header_bytes c₄.0 ++ l) (ap (λ (n : ℕ). drop n p) end ∙ d.1) in
    let size : number_at p 0 2 ≡ length (content_bytes x) = omega (arith, ap length rest, length-drop 2 p) in
    let whole : p ≡ datagram_bytes x = be-number 2 p 0 h (omega arith) ∙ ap₂ (λ (n : ℕ) (l : List ℕ). be 2 n ++ l) size rest in
    let result : x ≡ g = cc in
    subst (λ (y : Datagram). UdpPacket limits y p) result
    (record {
      header = k.1;
      payload = d.0;
      most = subst (λ (l : List ℕ). length l ≤ limits.datagram) whole (leb-true _ _ c₂.0);
      counted = subst (λ (n : ℕ). n < 256 ^ 2) size (number_lt p 0 2 h);
      whole = whole;
    })

-- the header stands at 2, and the data field fills the rest from 23 on
parts : (limits : Limits) (g : Datagram) (p : List ℕ) → UdpPacket limits g p → (read_header p 2 ≡ got g.header 23) × (drop 23 p ≡ data_bytes g.payload)
unfolding content_bytes datagram_bytes
parts limits g p h =
    let a = between_split (be 2 (length (content_bytes g))) (between-bytes h.whole (between-whole p)) in
    let b = between_split (header_bytes g.header) a.1 in
    let start : 0 + length (be 2 (length (content_bytes g))) ≡ 2 = simp length_digits in
    let end : 0 + length (be 2 (length (content_bytes g))) + length (header_bytes g.header) ≡ 23 = simp (length_digits, length-header) in (
      header-exact.complete p 2 g.header 23 h.header (between-moved start end b.0),
      (between-moved end refl b.1).layout ∙ simp (drop-length, append-nil),
    )

datagram-complete : (limits : Limits) (p : List ℕ) (g : Datagram) → UdpPacket limits g p → read_datagram limits p ≡ Ok g
unfolding read_datagram judge_header datagram_bytes
datagram-complete limits p g k =
    let a = parts limits g p k in
    let size : length p ≡ length (content_bytes g) + 2 = ap length k.whole ∙ length-datagram g in
    let number : number_at p 0 2 ≡ length (content_bytes g) = number-be 2 (length (content_bytes g)) p 0 (content_bytes g) k.counted k.whole in
    let long : 3 ≤ length (drop 23 p) = subst (λ (l : List ℕ). 3 ≤ length l) (sym a.1) (data-long g.payload) in
    on_accepted-passed (judge_header limits.datagram p) _
    (check-passed _ 21 _ _ (le-leb 1 limits.datagram (omega (arith, k.most, length-datagram g)))
    ∙ check-passed _ 1 _ _ (le-leb 26 (length p) (omega (arith, length-drop 23 p)))
    ∙ check-passed _ 3 _ _ (le-leb (length p) limits.datagram (omega (arith, k.most, length-datagram g)))
    ∙ check-passed _ 4 _ _ (eq-eqb (length p) (number_at p 0 2 + 2) (omega arith))
    ∙ told-got _ _ a.0)
    ∙ on_accepted-passed _ _ (from-passed 23 _ (ap (read_data limits.longest) a.1 ∙ data-complete limits.longest g.payload k.payload))

-- the judge accepts exactly what keeps the rules
pub datagram-exact : (limits : Limits) (p : List ℕ) (g : Datagram) → Bytes p → (read_datagram limits p ≡ Ok g) ↔ UdpPacket limits g p
datagram-exact limits p g h = (datagram-sound limits p g h, datagram-complete limits p g)

pub datagrams-unique : (limits : Limits) (g h : Datagram) (p : List ℕ) → UdpPacket limits g p → UdpPacket limits h p → g ≡ h
datagrams-unique limits g h p k l = cc (datagram-complete limits p g k, datagram-complete limits p h l)
