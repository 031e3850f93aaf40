-- Records lie one behind another in an accepted input, a looked-up value lies within its record, and a record depends on
-- its own bytes only.
use Rattle.std.specs.Prelude.{Ok}
use Prim.Native.Nat.{ℕ, zero, suc, ◌+◌, ◌-◌, ◌≤◌}
use native.Mathlib.Nat.{add-zero}
use native.Mathlib.Omega.{arith}
use mathlib.Core.Path.{◌≡◌, refl, sym, ap, ◌∙◌, subst}
use mathlib.Core.Bool.{Bool, true, false}
use mathlib.Core.List.{List, [], ◌∷◌, ◌++◌}
use lib.ListN.{length, take, drop, length-append, length-drop, take-append-drop}
use lib.Seq.{drop-drop, drop_at, take-append-le, drop-append-le}
use lib.Dec.{eqb}
use borrow.Author.Tests.{eqb-true}
use Rattle.wire.specs.declared.Limits.{Limits}
use Rattle.wire.specs.Numbers.{Bytes, digits, be, pick}
use Rattle.wire.specs.Sequences.{joined, All}
use Rattle.wire.specs.Envelope.{enclosed}
use Rattle.wire.specs.Reading.{got}
use Rattle.wire.specs.Answers.{Answer}
use Rattle.wire.proofs.Widths.{length_digits}
use Rattle.wire.proofs.Placed.{Between, between_split, between-moved, between-bytes, between-whole, between-take, between_is}
use Rattle.wire.proofs.Accepting.{on_accepted-accepted}
use Rattle.wire.proofs.ImeiText.{length-imei_text}
use Rattle.avl.specs.declared.Widths.{Widths}
use Rattle.avl.specs.Codecs.{widths_of}
use Rattle.avl.specs.Records.{AvlRecord, record_bytes, RecordRules}
use Rattle.avl.specs.RecordReader.{avl_record}
use Rattle.avl.specs.DataField.{AvlData, data_bytes}
use Rattle.avl.proofs.RecordLaws.{record-exact}
use Rattle.checksum.specs.Crc.{crc}
use Rattle.frame.specs.Frame.{framed}
use Rattle.packet.specs.DataPackets.{packet_bytes, DataPacket, read_packet}
use Rattle.packet.proofs.PacketLaws.{packet-exact}
use Rattle.datagram.specs.Datagrams.{Datagram, header_bytes, content_bytes, datagram_bytes, UdpPacket, read_datagram}
use Rattle.datagram.proofs.DatagramLaws.{datagram-exact}
use Rattle.element.specs.Elements.{Located, elements, nth, first_with}
use Rattle.element.specs.Places.{part, Inside}
use Rattle.lookup.specs.Places.{Placed, place_records, Tiles}
use Rattle.lookup.specs.Carriers.{Stored}
use Rattle.lookup.specs.Lookups.{Source, tcp_source, udp_source, placed_record, Found, found_in, value_in}
use Rattle.element.proofs.ElementLaws.{elements-inside}

-- ---- the records fill the input

pub records-tile : (w : Widths) (p : List ℕ) (rs : List AvlRecord) (from to : ℕ) → Between p from (joined (record_bytes w) rs) to
    → Tiles w p from to (place_records w from rs)
unfolding place_records part
records-tile w p [] from to f = sym (f.size ∙ add-zero from)
records-tile w p (r ∷ rs) from to f =
    let a = between_split (record_bytes w r) f in
    (refl, a.0.inside, between_is a.0, records-tile w p rs _ to a.1)

-- the records stand two bytes behind the start of the data field, and end one before its end
data-tiles : (p : List ℕ) (a : AvlData) (at next from to : ℕ) → Between p at (data_bytes a) next → at + 2 ≡ from → next - 1 ≡ to
    → Tiles (widths_of a.codec) p from to (place_records (widths_of a.codec) from a.records)
unfolding data_bytes enclosed digits
data-tiles p a at next from to f e h =
    let n = length a.records in
    let body = joined (record_bytes (widths_of a.codec)) a.records in
    let b = between_split (be 1 n) (between_split (be 1 a.codec) f).1 in
    let c = between_split body b.1 in
    records-tile (widths_of a.codec) p a.records from to (between-moved (omega arith) (omega (arith, c.1.size)) c.0)

pub tcp-tiles : (limits : Limits) (p : List ℕ) (a : AvlData) → DataPacket limits a p
    → Tiles (widths_of a.codec) p 10 (length p - 5) (place_records (widths_of a.codec) 10 a.records)
unfolding packet_bytes framed
tcp-tiles limits p a k =
    let d = data_bytes a in
    let f₁ = between_split (be 4 0) (between-bytes k.whole (between-whole p)) in
    let f₂ = between_split (be 4 (length d)) f₁.1 in
    let f₃ = between_split d f₂.1 in
    data-tiles p a _ _ 10 (length p - 5) f₃.0 (simp length_digits)
    (omega (arith, f₃.1.size, length_digits 256 4 (crc d)))

pub udp-tiles : (limits : Limits) (p : List ℕ) (g : Datagram) → UdpPacket limits g p
    → Tiles (widths_of g.payload.codec) p 25 (length p - 1) (place_records (widths_of g.payload.codec) 25 g.payload.records)
unfolding datagram_bytes content_bytes header_bytes
udp-tiles limits p g k =
    let f₁ = between_split (be 2 (length (content_bytes g))) (between-bytes k.whole (between-whole p)) in
    let f₂ = between_split (header_bytes g.header) f₁.1 in
    data-tiles p g.payload _ (length p) 25 (length p - 1) f₂.1 (simp (length-append, length_digits, length-imei_text)) refl

-- ---- what is looked in

pub tcp-stored : (limits : Limits) (p : List ℕ) (x : Source) → Bytes p → tcp_source limits p ≡ Ok x → Stored limits.longest p x
unfolding tcp_source
tcp-stored limits p x h e =
    let i = on_accepted-accepted (read_packet limits p) _ e in
    let k = (packet-exact limits p i.0 h).0 i.1 in
    subst (λ (y : Source). Stored limits.longest p y) (cc) (record { rules = k.rules; tiles = (_, tcp-tiles limits p i.0 k) })

pub udp-stored : (limits : Limits) (p : List ℕ) (x : Source) → Bytes p → udp_source limits p ≡ Ok x → Stored limits.longest p x
unfolding udp_source
udp-stored limits p x h e =
    let i = on_accepted-accepted (read_datagram limits p) _ e in
    let k = (datagram-exact limits p i.0 h).0 i.1 in
    subst (λ (y : Source). Stored limits.longest p y) (cc) (record { rules = k.payload; tiles = (_, udp-tiles limits p i.0 k) })

-- ---- what is found is one of the list: what holds of each holds of it

pub nth-member : {A : Type 0} (n : ℕ) (l : List A) (a : A) → nth n l ≡ Ok a → (P : A → Type 0) → All P l → P a
unfolding nth
nth-member n [] a e P h = absurd (let z : ◌≡◌ {A = ℕ} 0 1 = cc in omega arith)
nth-member zero (b ∷ l) a e P h = subst P (cc) h.0
nth-member (suc n) (b ∷ l) a e P h = nth-member n l a e P h.1

first-cases : {A C : Type 0} (test : Bool) (a b : A) (rest : Answer A) → pick test (Ok a) rest ≡ Ok b
    → (test ≡ true → a ≡ b → C) → (rest ≡ Ok b → C) → C
first-cases true a b rest e f g = f refl (cc)
first-cases false a b rest e f g = g e

pub first_member : (id : ℕ) (l : List Located) (e : Located) → first_with id l ≡ Ok e → (P : Located → Type 0) → All P l → P e
unfolding first_with
first_member id [] e h P k = absurd (let z : ◌≡◌ {A = ℕ} 0 1 = cc in omega arith)
first_member id (a ∷ l) e h P k =
    first-cases (eqb a.id id) a e _ h (λ t same. subst P same k.0) (λ later. first_member id l e later P k.1)

pub first-id : (id : ℕ) (l : List Located) (e : Located) → first_with id l ≡ Ok e → e.id ≡ id
unfolding first_with
first-id id [] e h = absurd (let z : ◌≡◌ {A = ℕ} 0 1 = cc in omega arith)
first-id id (a ∷ l) e h = first-cases (eqb a.id id) a e _ h (λ t same. cc (eqb-true a.id id t)) (first-id id l e)

-- ---- a record in its place

pub record Kept (longest : ℕ) (w : Widths) (p : List ℕ) (r : Placed) : Type 0 where
  pub rules : RecordRules longest w r.content
  pub stands : Between p r.start (record_bytes w r.content) (r.start + length (record_bytes w r.content))

pub all-kept : (longest : ℕ) (w : Widths) (p : List ℕ) (rs : List AvlRecord) (from to : ℕ) → All (RecordRules longest w) rs
    → Tiles w p from to (place_records w from rs) → All (Kept longest w p) (place_records w from rs)
unfolding place_records part
all-kept longest w p [] from to h k = tt
all-kept longest w p (r ∷ rs) from to h k =
    (record { rules = h.0; stands = between-bytes k.2 (between-take p from _ k.1) }, all-kept longest w p rs _ to h.1 k.3)

pub kept : (longest : ℕ) (p : List ℕ) (x : Source) (n : ℕ) (r : Placed) → Stored longest p x → placed_record x n ≡ Ok r
    → Kept longest (widths_of x.content.codec) p r
unfolding placed_record
kept longest p x n r h e = nth-member n _ r e _ (all-kept longest _ p x.content.records x.base _ h.rules.each h.tiles.1)

-- a part of what stands at `at`, seen from the start
part-within : {p bs : List ℕ} {at next : ℕ} (place n : ℕ) → Between p at bs next → place + n ≤ length bs → part p (at + place) n ≡ part bs place n
unfolding part
part-within {p} {bs} {at} {next} place n f h =
    ap (λ (l : List ℕ). take n l) (sym (drop-drop place at p) ∙ ap (λ (l : List ℕ). drop place l) f.layout ∙ drop-append-le place bs (drop next p) (omega arith))
    ∙ take-append-le n (drop place bs) (drop next p) (simp length-drop (omega arith))

pub value-in-place : (longest : ℕ) (p : List ℕ) (x : Source) (n : ℕ) (choose : List Located → Answer Located) (f : Found) → Stored longest p x
    → ((l : List Located) (e : Located) → choose l ≡ Ok e → (P : Located → Type 0) → All P l → P e)
    → value_in choose x n ≡ Ok f
    → (r : Placed)
    × (placed_record x n ≡ Ok r)
    × (r.start ≤ f.offset)
    × (f.offset + length f.value ≤ r.start + length (record_bytes (widths_of x.content.codec) r.content))
    × (part p f.offset (length f.value) ≡ f.value)
unfolding value_in found_in
value-in-place longest p x n choose f h member e =
    let w = widths_of x.content.codec in
    let i = on_accepted-accepted (placed_record x n) _ e in
    let r = i.0 in
    let j = on_accepted-accepted (choose (elements w r.content)) _ i.2 in
    let v = j.0 in
    let k = kept longest p x n r h i.1 in
    let m = member _ v j.1 (λ a. Inside a (record_bytes w r.content)) (elements-inside w r.content) in
    let same : found_in r v ≡ f = cc in
    rw (← same)
    (r, i.1, omega arith, omega (arith, m.within), part-within v.place (length v.value) k.stands m.within ∙ m.stands)

-- ---- a record depends on its own bytes only

pub same-record : (longest : ℕ) (w : Widths) (r q : AvlRecord) (x y : List ℕ) → RecordRules longest w r → RecordRules longest w q
    → record_bytes w r ++ x ≡ record_bytes w q ++ y → (r ≡ q) × (x ≡ y)
same-record longest w r q x y h k e =
    let a = (record-exact longest w).complete _ 0 r _ h (between_split (record_bytes w r) (between-whole (record_bytes w r ++ x))).0 in
    let b = (record-exact longest w).complete _ 0 q _ k (between_split (record_bytes w q) (between-whole (record_bytes w q ++ y))).0 in
    let same : r ≡ q = cc in
    (same, cc (drop_at (record_bytes w r) x _ refl, drop_at (record_bytes w q) y _ refl))

pub own-part : (longest : ℕ) (p : List ℕ) (x : Source) (n : ℕ) (r : Placed) → Stored longest p x → placed_record x n ≡ Ok r
    → avl_record longest (widths_of x.content.codec) (part p r.start (length (record_bytes (widths_of x.content.codec) r.content))) 0
    ≡ got r.content (length (record_bytes (widths_of x.content.codec) r.content))
unfolding part
own-part longest p x n r h e =
    let w = widths_of x.content.codec in
    let k = kept longest p x n r h e in
    ap (λ (s : List ℕ). avl_record longest w s 0) (between_is k.stands)
    ∙ (record-exact longest w).complete _ 0 r.content _ k.rules (between-whole (record_bytes w r.content))

pub local : (longest : ℕ) (p q : List ℕ) (x y : Source) (m n : ℕ) (r t : Placed) → Stored longest p x → Stored longest q y
    → x.content.codec ≡ y.content.codec → placed_record x m ≡ Ok r → placed_record y n ≡ Ok t
    → part p r.start (length (record_bytes (widths_of x.content.codec) r.content))
    ≡ part q t.start (length (record_bytes (widths_of x.content.codec) r.content))
    → r.content ≡ t.content
unfolding part
local longest p q x y m n r t h k codec e f same =
    let w = widths_of x.content.codec in
    let a = kept longest p x m r h e in
    let b : Kept longest w q t = rw (← codec) at (kept longest q y n t k f) in
    let rest = drop (length (record_bytes w r.content)) (drop t.start q) in
    let there : record_bytes w r.content ++ rest ≡ drop t.start q =
    ap (λ (l : List ℕ). l ++ rest) (sym (between_is a.stands) ∙ same) ∙ take-append-drop (length (record_bytes w r.content)) (drop t.start q) in
    (same-record longest w r.content t.content rest _ a.rules b.rules (there ∙ b.stands.layout)).0
