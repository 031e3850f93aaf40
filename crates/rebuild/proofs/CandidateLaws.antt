-- The packet of a form is found by writing its data field and comparing that field's form.
use Rattle.std.specs.Prelude.{Err, Ok}
use Prim.Native.Nat.{ℕ, ◌+◌, ◌*◌, ◌≤◌, ◌<◌}
use native.Mathlib.Omega.{arith}
use mathlib.Core.Path.{◌≡◌, refl, sym, ap, ◌∙◌, subst}
use mathlib.Core.Bool.{Bool, true, false, ◌&&◌}
use mathlib.Core.List.{List, [], ◌∷◌, ◌++◌}
use lib.ListN.{length, take, drop}
use lib.Seq.{sets, length-sets, take_at}
use lib.Dec.{leb, eqb}
use borrow.Author.Tests.{le-leb, lt-leb, leb-true}
use Rattle.std.specs.Str.{bytes_eq}
use Rattle.wire.specs.declared.Limits.{Limits}
use Rattle.wire.specs.Limits.{largest_of_all}
use Rattle.wire.specs.declared.Refusal.{Refusal}
use Rattle.wire.specs.Numbers.{Bytes, pick}
use Rattle.wire.specs.Sequences.{joined}
use Rattle.wire.specs.Answers.{Answer, on_accepted, refusal, from}
use Rattle.wire.specs.Buffers.{writing, leaving}
use Rattle.wire.proofs.BufferLaws.{written-fits, sets-front, writing-done, writing-short, leaving-done, leaving-short}
use Rattle.wire.proofs.Storing.{drop-sets, drop-at-sets}
use Rattle.wire.proofs.Enclosed.{length-enclosed}
use Rattle.wire.proofs.Accepting.{check-accepted, check-passed, check-failed, on_accepted-accepted, on_accepted-passed, from-passed}
use Rattle.avl.specs.Codecs.{widths_of}
use Rattle.avl.specs.Records.{record_bytes}
use Rattle.avl.specs.DataField.{AvlData, data_bytes, read_data}
use Rattle.avl.proofs.DataLaws.{data-complete}
use Rattle.frame.specs.Frame.{framed, unframe}
use Rattle.frame.proofs.FrameLaws.{length-framed, frame-complete}
use Rattle.packet.specs.DataPackets.{packet_bytes, read_packet}
use Rattle.packet.proofs.PacketLaws.{packet-exact}
use Rattle.tlv.specs.Form.{form}
use Rattle.tlv.specs.Decoding.{decoded}
use Rattle.tlv.specs.PacketOf.{same, or17, read_form, packet_within, packet_of_form}
use Rattle.tlv.proofs.DecodedBytes.{bytes-field, bytes-decoded}
use Rattle.tlv.proofs.FormLaws.{form-decoded}
use Rattle.tlv.proofs.PacketOfLaws.{form-exact, form-refusal}
use Rattle.form.specs.Moves.{form_of_field}
use Rattle.traverse.proofs.FieldLaws.{Answers, refused-whole}
use Rattle.form.proofs.FormSize.{form-size}
use Rattle.rebuild.specs.Candidates.{Roomy, form_within, has_form}

-- ---- the candidate

data-long : (a : AvlData) → 3 ≤ length (data_bytes a)
unfolding data_bytes
data-long a = omega (arith, length-enclosed a.codec (length a.records) (joined (record_bytes (widths_of a.codec)) a.records))

-- a packet is judged by its data field
packet-read : (limits : Limits) (a : AvlData) → Roomy limits → Bytes (data_bytes a) → length (data_bytes a) + 12 ≤ limits.largest
    → read_packet limits (packet_bytes a) ≡ from 8 (read_data limits.longest (data_bytes a))
unfolding read_packet packet_bytes
packet-read limits a room b h =
    on_accepted-passed (unframe limits.largest (framed (data_bytes a))) _
    (frame-complete limits.largest (data_bytes a) (record { bytes = b; least = data-long a; most = h; counted = omega (arith, room.packets) }))

-- ---- the comparison

has_form-true : (r : Answer (List ℕ)) (f : List ℕ) → has_form r f ≡ true → (g : List ℕ) × (r ≡ Ok g) × (same g f ≡ true)
unfolding has_form
has_form-true (Ok g) f e = (g, refl, e)
has_form-true (Err x) f e = absurd (let z : ◌≡◌ {A = ℕ} 0 1 = cc in omega arith)

none : (r : Answer AvlData) → ((x : Refusal) → r ≡ Err x → x ≡ refusal 17) → ((a : AvlData) → r ≡ Ok a → ⊥)
    → on_accepted r (λ a. Ok (packet_bytes a)) ≡ Err (refusal 17)
unfolding on_accepted
none (Ok a) only h = absurd (h a refl)
none (Err x) only h = ap Err (only x refl)

-- within the limit the form is that of the data field
pub form-within : (limits : Limits) (d : List ℕ) → length d + 12 ≤ limits.largest → form_within limits d ≡ form_of_field limits.longest d
unfolding form_within
form-within limits d h = check-passed (leb (length d + 12) limits.largest) 17 _ _ (le-leb _ _ h)

pub form-over : (limits : Limits) (d f : List ℕ) → limits.largest < length d + 12 → false ≡ has_form (form_within limits d) f
unfolding form_within has_form
form-over limits d f h = sym (ap (λ r. has_form r f) (check-failed (leb (length d + 12) limits.largest) 17 _ _ (lt-leb _ _ h)))

module _ (limits : Limits) (room : Roomy limits) (f : List ℕ) where
  abbrev field : List ℕ
  field = data_bytes (decoded f)

  module _ (b : Bytes f) where
    -- what an accepted form stands for
    reads : (a : AvlData) → read_form limits f ≡ Ok a → (read_data limits.longest field ≡ Ok a) × (f ≡ form a) × (length field + 12 ≤ limits.largest)
    reads a e =
        let k = (form-exact limits f a b room.records).0 e in
        let again : decoded f ≡ a = ap decoded k.form ∙ form-decoded limits.longest a room.records k.packet.rules in
        let is = ap data_bytes again in
        (ap (read_data limits.longest) is ∙ data-complete limits.longest a k.packet.rules, k.form, omega (arith, ap length is, k.packet.frame.most))

    refused-form : ((a : AvlData) → read_form limits f ≡ Ok a → ⊥) → packet_within limits f ≡ Err (refusal 17)
    unfolding packet_within
    refused-form h = none (read_form limits f) (form-refusal limits f) h

    pub long-refused : 4 * largest_of_all < length f → packet_within limits f ≡ Err (refusal 17)
    long-refused h =
        refused-form (λ a e.
        let k = reads a e in
        omega (arith, h, form-size limits.longest field a (bytes-field f b) (data-long (decoded f)) k.0, ap length k.1, k.2, room.packets))

    pub over-refused : largest_of_all < length field + 12 → packet_within limits f ≡ Err (refusal 17)
    over-refused h = refused-form (λ a e. omega (arith, h, (reads a e).2, room.packets))

    other-refused : has_form (form_within limits field) f ≡ false → packet_within limits f ≡ Err (refusal 17)
    unfolding form_of_field has_form read_form
    other-refused h =
        refused-form (λ a e.
        let k = reads a e in
        let i = on_accepted-accepted (or17 (read_packet limits (packet_bytes (decoded f)))) _ e in
        let c = check-accepted (same (form i.0) f) 17 _ (Ok i.0) i.2 in
        let is : i.0 ≡ a = cc in
        let equal : same (form a) f ≡ true = ap (λ (x : AvlData). same (form x) f) (sym is) ∙ c.0 in
        let within = form-within limits field k.2 ∙ on_accepted-passed (read_data limits.longest field) _ k.0 in
        let yes : true ≡ false = sym (ap (λ r. has_form r f) within ∙ equal) ∙ h in
        let z : ◌≡◌ {A = ℕ} 0 1 = cc in
        omega arith)

    found : has_form (form_within limits field) f ≡ true → packet_within limits f ≡ Ok (framed field)
    unfolding packet_within packet_bytes form_of_field form_within read_form or17
    found h =
        let g = has_form-true (form_within limits field) f h in
        let c = check-accepted (leb (length field + 12) limits.largest) 17 _ _ g.1 in
        let i = on_accepted-accepted (read_data limits.longest field) _ c.1 in
        let a = i.0 in
        let packet = packet_bytes (decoded f) in
        let accepts : read_packet limits packet ≡ Ok a = packet-read limits (decoded f) room (bytes-field f b) (leb-true _ _ c.0) ∙ from-passed 8 _ i.1 in
        let formed : form a ≡ g.0 = cc in
        let equal = ap (λ (x : List ℕ). same x f) formed ∙ g.2 in
        on_accepted-passed (read_form limits f) _
        (on_accepted-passed (or17 (read_packet limits packet)) _ (ap or17 accepts) ∙ check-passed (same (form a) f) 17 _ (Ok a) equal)
        ∙ ap Ok (sym ((packet-exact limits packet a (bytes-decoded f b)).0 accepts).whole)

  -- the data field at the start of an array, and what the comparison tells
  module _ (z : List ℕ) {d : List ℕ} (n : ℕ) (stored : d ≡ sets z 0 field) (size : n ≡ length field) (fits : n ≤ length z) where
    abbrev part : List ℕ
    part = take n d

    front : part ≡ field
    front = ap (take n) (stored ∙ sets-front field z (omega arith)) ∙ take_at field (drop (length field) z) n (sym size)

    pub part-size : (length part ≡ n) × (3 ≤ n)
    part-size = (ap length front ∙ sym size, omega (arith, size, data-long (decoded f)))

    module _ (b : Bytes f) {r : Bool} (told : r ≡ has_form (form_within limits part) f) where
      seen : {t : Bool} → r ≡ t → has_form (form_within limits field) f ≡ t
      seen k = sym (ap (λ (x : List ℕ). has_form (form_within limits x) f) front) ∙ sym told ∙ k

      pub part-found : r ≡ true → packet_within limits f ≡ Ok (framed part)
      part-found k = found b (seen k) ∙ ap (λ (x : List ℕ). Ok (framed x)) (sym front)

      pub part-other : r ≡ false → packet_within limits f ≡ Err (refusal 17)
      part-other k = other-refused b (seen k)

-- ---- bytes compared

pub same-bytes : (p q : List ℕ) → bytes_eq p q ≡ same p q
same-bytes [] [] = refl
same-bytes [] (b ∷ q) = refl
same-bytes (a ∷ p) [] = refl
same-bytes (a ∷ p) (b ∷ q) = go (eqb a b) (same-bytes p q)
  where
    go : (t : Bool) → bytes_eq p q ≡ same p q → t && bytes_eq p q ≡ pick t (same p q) false
    go true h = h
    go false h = refl

-- ---- what a writer's answer tells

-- an array of four times the field's length is never too short
pub form-refused : (longest : ℕ) (d g f : List ℕ) {x : Refusal} → Bytes d → 3 ≤ length d → 4 * length d ≤ length g → Err x ≡ writing (form_of_field longest d) g → false ≡ has_form (form_of_field longest d) f
unfolding form_of_field has_form
form-refused longest d g f {x} b l room e = go (form_of_field longest d) refl
  where
    go : (r : Answer (List ℕ)) → form_of_field longest d ≡ r → false ≡ has_form (form_of_field longest d) f
    go (Ok y) is =
        let k = on_accepted-accepted (read_data longest d) _ is in
        let whole : form k.0 ≡ y = cc in
        let fits : length y ≤ length g = omega (arith, room, form-size longest d k.0 b l k.1, ap length whole) in
        let done = e ∙ ap (λ r. writing r g) is ∙ writing-done y g fits in
        absurd (let z : ◌≡◌ {A = ℕ} 0 1 = cc in omega arith)
    go (Err y) is = sym (ap (λ r. has_form r f) is)

pub form-written : (result : Answer (List ℕ)) (before after f : List ℕ) {n : ℕ} → Ok n ≡ writing result before → after ≡ leaving result before
    → bytes_eq (take n after) f ≡ has_form result f
unfolding has_form
form-written result before after f {n} e k =
    let g = written-fits result before e in
    let left = k ∙ ap (λ r. leaving r before) g.1 ∙ leaving-done g.0 before (omega (arith, g.2, g.3)) in
    same-bytes (take n after) f ∙ ap (λ (x : List ℕ). same (take n x) f) left ∙ ap (λ (x : List ℕ). same x f) (take_at g.0 _ n (omega (arith, g.2))) ∙ sym (ap (λ r. has_form r f) g.1)

-- the same of a data field within its limit
pub form-compared : (limits : Limits) (d f before after : List ℕ) {n : ℕ} → length d + 12 ≤ limits.largest
    → Ok n ≡ writing (form_of_field limits.longest d) before → after ≡ leaving (form_of_field limits.longest d) before
    → bytes_eq (take n after) f ≡ has_form (form_within limits d) f
form-compared limits d f before after h e k = form-written (form_of_field limits.longest d) before after f e k ∙ sym (ap (λ r. has_form r f) (form-within limits d h))

-- ---- the answer

pub answers-refused : {result : Answer (List ℕ)} {out : List ℕ} {r : Answer ℕ} {number : ℕ} → result ≡ Err (refusal number) → r ≡ Err (refusal number) → Answers result out out r
answers-refused {result} {out} e k = subst (λ (x : Answer ℕ). Answers result out out x) (sym k) (refused-whole e)

-- 21 comes first
pub known-form : (limits : Limits) (f : List ℕ) → 1 ≤ limits.largest → packet_of_form limits f ≡ packet_within limits f
unfolding packet_of_form
known-form limits f h = check-passed _ 21 _ _ (le-leb 1 limits.largest h)

pub unknown-form : (limits : Limits) (f : List ℕ) → limits.largest < 1 → packet_of_form limits f ≡ Err (refusal 21)
unfolding packet_of_form
unknown-form limits f h = check-failed _ 21 _ _ (lt-leb 1 limits.largest h)

pub answers-found : {result : Answer (List ℕ)} {p after : List ℕ} (before : List ℕ) (r : Answer ℕ) → result ≡ Ok p → Answers (Ok p) before after r → Answers result before after r
answers-found {after = after} before r e k = subst (λ y. Answers y before after r) (sym e) k

module _ (field out : List ℕ) where
  pub answers-short : {r : Answer ℕ} → length out < length field + 12 → r ≡ Err (refusal 18) → Answers (Ok (framed field)) out out r
  answers-short h k =
      let long : length out < length (framed field) = omega (arith, length-framed field) in
      (k ∙ sym (writing-short (framed field) out long), sym (leaving-short (framed field) out long))

  -- the field behind the first eight bytes, then the frame around it
  pub answers-done : {mid after : List ℕ} → length field + 12 ≤ length out → mid ≡ sets out 8 field → after ≡ sets mid 0 (framed (take (length field) (drop 8 mid)))
      → Answers (Ok (framed field)) out after (Ok (length field + 12))
  answers-done {mid} h m k =
      let p = framed field in
      let size = length-framed field in
      let fits : length p ≤ length out = omega arith in
      let room : 8 + length field ≤ length out = omega arith in
      let behind : drop 8 mid ≡ field ++ drop (8 + length field) out = ap (drop 8) m ∙ drop-at-sets out 8 field room in
      let content : take (length field) (drop 8 mid) ≡ field = ap (take (length field)) behind ∙ take_at field (drop (8 + length field) out) (length field) refl in
      let long : length mid ≡ length out = ap length m ∙ length-sets out 8 field in
      let rest : drop (length p) mid ≡ drop (length p) out = ap (drop (length p)) m ∙ drop-sets out 8 field (length p) (omega arith) in (
        ap Ok (omega arith) ∙ sym (writing-done p out fits),
        k
            ∙ ap (λ (x : List ℕ). sets mid 0 (framed x)) content
            ∙ sets-front p mid (omega arith)
            ∙ ap (λ (x : List ℕ). p ++ x) rest
            ∙ sym (leaving-done p out fits),
      )
