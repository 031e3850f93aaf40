-- The sizes of forms, from the layouts.
use Rattle.std.specs.Prelude.{Ok}
use Prim.Native.Nat.{ℕ, zero, suc, ◌+◌, ◌*◌, ◌^◌, ◌≤◌, ◌<◌}
use native.Mathlib.Omega.{arith}
use mathlib.Core.Path.{◌≡◌, refl, sym, ap, ◌∙◌}
use mathlib.Core.Bool.{Bool, true, false}
use mathlib.Core.List.{List, [], ◌∷◌}
use mathlib.Core.Logic.{⊎_elim}
use lib.ListN.{length, replicate, length-replicate}
use lib.Dec.{lit<, lit≤, leb}
use borrow.Author.Tests.{leb-true, leb-false}
use Rattle.wire.specs.declared.Limits.{Limits}
use Rattle.wire.specs.Limits.{limits_of}
use Rattle.wire.specs.Numbers.{Bytes, digits, le}
use Rattle.wire.specs.Envelope.{enclosed}
use Rattle.wire.specs.Sequences.{All}
use Rattle.wire.proofs.Accepting.{on_accepted-accepted}
use Rattle.frame.proofs.FrameLaws.{length-framed}
use Rattle.avl.specs.Codecs.{codec8, widths_of, is_data_codec, kinds}
use Rattle.avl.specs.Records.{Element, ElementRules, GroupRules, RecordRules, element_count, length_bytes, element_bytes, group_bytes, groups_bytes, fixed_bytes, record_bytes}
use Rattle.avl.specs.DataField.{AvlData, data_bytes}
use Rattle.avl.proofs.ByteLaws.{ByteValues, bytes-data}
use Rattle.packet.specs.DataPackets.{packet_bytes, read_packet}
use Rattle.packet.proofs.PacketLaws.{packet-exact, packet-complete}
use Rattle.store.specs.Entries.{entry_bytes}
use Rattle.tlv.specs.Form.{fixed_entry, element_entry, group_entries, groups_entries, records_entries, form_entries, form}
use Rattle.tlv.specs.PacketOf.{form_of_packet}
use Rattle.form.proofs.FormSize.{Measured, measured}
use Rattle.form.proofs.WholeLaws.{packet-room, datagram-room}
use Rattle.claims.specs.FormSizes.{FourTimes, crowded, crowded_twice, FormSizes}

-- ---- what the layouts say of a packet and its form

record Sizes (limits : Limits) (p f : List ℕ) : Type 0 where
  content : AvlData
  counts : Measured limits.longest content
  some : 1 ≤ length content.records
  packet : length p ≡ length (data_bytes content) + 12
  text : length f ≡ length (form content)
  most : length p ≤ limits.largest

sizes : (limits : Limits) (p f : List ℕ) → Bytes p → form_of_packet limits p ≡ Ok f → Sizes limits p f
unfolding form_of_packet packet_bytes
sizes limits p f b e =
    let i = on_accepted-accepted (read_packet limits p) _ e in
    let k = (packet-exact limits p i.0 b).0 i.1 in
    let same : form i.0 ≡ f = cc i.2 in
    let whole = ap length k.whole ∙ length-framed (data_bytes i.0) in
    record {
      content = i.0;
      counts = measured limits.longest i.0 k.rules;
      some = k.rules.some_records;
      packet = whole;
      text = ap length (sym same);
      most = omega (arith, whole, k.frame.most);
    }

four-times : (family : ℕ) → FourTimes family
four-times family =
    record {
      packets = λ p f b e. packet-room (limits_of family) p f b e;
      datagrams = λ p f b e. datagram-room (limits_of family) p f b e;
      largest = λ p f b e. omega (arith, packet-room (limits_of family) p f b e, (sizes (limits_of family) p f b e).most);
    }

-- ---- the bounds of each family, by the number of records

-- fewer than so many, as many, or more
by_number : (n k : ℕ) {C : Type 0} → (k < n → C) → (k ≡ n → C) → (n < k → C) → C
by_number n k {C} fewer same more = at_most (leb k n) refl
  where
    equal : (t : Bool) → leb n k ≡ t → leb k n ≡ true → C
    equal true e h = same (omega (arith, leb-true n k e, leb-true k n h))
    equal false e h = fewer (leb-false n k e)

    at_most : (t : Bool) → leb k n ≡ t → C
    at_most true e = equal (leb n k) refl e
    at_most false e = more (leb-false k n e)

bounds1 : (p f : List ℕ) → Sizes (limits_of 1) p f → (511 * length f ≤ 1593 * length p) × (length f ≤ 1594)
unfolding limits_of
bounds1 p f s =
    let m = s.counts in
    ⊎_elim
    (λ few. by_number 2 (length s.content.records)
    (λ k. (omega (arith, k, s.some, s.packet, s.text, s.most, m.text, m.least, m.most), omega (arith, k, s.some, s.packet, s.text, s.most, m.text, m.least, m.most)))
    (λ k. (omega (arith, k, s.packet, s.text, s.most, m.text, m.least), omega (arith, k, s.packet, s.text, s.most, m.text, m.least)))
    (λ k. (omega (arith, k, s.packet, s.text, s.most, m.text, m.least), omega (arith, k, s.packet, s.text, s.most, m.text, m.least))))
    (λ wide. (omega (arith, wide, s.packet, s.text, s.most, m.text, m.least), omega (arith, wide, s.packet, s.text, s.most, m.text, m.least)))
    m.few

bounds2 : (p f : List ℕ) → Sizes (limits_of 2) p f → (1095 * length f ≤ 3637 * length p) × (length f ≤ 4208)
unfolding limits_of
bounds2 p f s =
    let m = s.counts in
    ⊎_elim
    (λ few. by_number 3 (length s.content.records)
    (λ k. (omega (arith, k, few, s.some, s.packet, s.text, s.most, m.text, m.least), omega (arith, k, few, s.packet, s.text, s.most, m.text, m.least)))
    (λ k. (omega (arith, k, s.packet, s.text, s.most, m.text, m.least), omega (arith, k, s.packet, s.text, s.most, m.text, m.least)))
    (λ k. (omega (arith, k, s.packet, s.text, s.most, m.text, m.least), omega (arith, k, s.packet, s.text, s.most, m.text, m.least))))
    (λ wide. (omega (arith, wide, s.packet, s.text, s.most, m.text, m.least), omega (arith, wide, s.packet, s.text, s.most, m.text, m.least)))
    m.few

-- ---- the packets that come closest

abbrev small : Element
small = record { id = 1; value = 0 ∷ [] }

all_alike : {A : Type 0} (P : A → Type 0) (a : A) (n : ℕ) → P a → All P (replicate n a)
all_alike P a zero h = tt
all_alike P a (suc n) h = (h, all_alike P a n h)

module _ (longest n : ℕ) (fits : n < 256) (size : length (record_bytes codec8 (crowded n)) ≤ longest) where
  crowded-rules : RecordRules longest codec8 (crowded n)
  unfolding element_count kinds
  crowded-rules =
      let many : length (replicate n small) < 256 ^ 1 = omega (arith, length-replicate n small) in
      record {
        fixed_keep =
            record {
              timestamp_fits = lit< tt;
              priority_range = lit≤ tt;
              longitude_fits = lit< tt;
              latitude_fits = lit< tt;
              altitude_fits = lit< tt;
              angle_fits = lit< tt;
              satellites_fit = lit< tt;
              speed_fits = lit< tt;
              event_fits = lit< tt;
              generation_fits = lit< tt;
              generation_range = lit≤ tt;
            };
        total_fits = omega (arith, many);
        groups_keep = (
          record { count_fits = many; each = all_alike (ElementRules codec8 1) small n (record { id_fits = lit< tt; size = refl; bytes = (lit< tt, tt) }) },
          (none, (none, (none, tt))),
        );
        size = size;
      }
    where
      none : {k : ℕ} → GroupRules codec8 k []
      none = record { count_fits = lit< tt; each = tt }

crowded-bytes : (n : ℕ) → ByteValues (crowded n)
crowded-bytes n = (all_alike (λ (e : Element). Bytes e.value) small n (lit< tt, tt), (tt, (tt, (tt, tt))))

module _ (limits : Limits) (m n d : ℕ) (first : m < 256) (second : n < 256) (one : length (record_bytes codec8 (crowded m)) ≤ limits.longest)
    (other : length (record_bytes codec8 (crowded n)) ≤ limits.longest) (field : length (data_bytes (crowded_twice m n)) ≡ d) (long : 3 ≤ d) (short : d < 256 ^ 4)
    (inside : d + 12 ≤ limits.largest) where
  crowded-taken : read_packet limits (packet_bytes (crowded_twice m n)) ≡ Ok (crowded_twice m n)
  unfolding widths_of is_data_codec
  crowded-taken =
      packet-complete limits _ (crowded_twice m n)
      (record {
        rules =
            record {
              codec_known = refl;
              some_records = lit≤ tt;
              count_fits = lit≤ tt;
              each = (crowded-rules limits.longest m first one, (crowded-rules limits.longest n second other, tt));
            };
        frame =
            record {
              bytes = bytes-data (crowded_twice m n) (crowded-bytes m, (crowded-bytes n, tt));
              least = omega (arith, field, long);
              most = omega (arith, field, inside);
              counted = omega (arith, field, short);
            };
        whole = refl;
      })

-- lengths, which compute
module _ where
  record112 : length (record_bytes codec8 (crowded 112)) ≡ 254
  unfolding record_bytes fixed_bytes groups_bytes group_bytes element_bytes length_bytes element_count kinds digits
  record112 = refl

  record106 : length (record_bytes codec8 (crowded 106)) ≡ 242
  unfolding record_bytes fixed_bytes groups_bytes group_bytes element_bytes length_bytes element_count kinds digits
  record106 = refl

  record255 : length (record_bytes codec8 (crowded 255)) ≡ 540
  unfolding record_bytes fixed_bytes groups_bytes group_bytes element_bytes length_bytes element_count kinds digits
  record255 = refl

  field1 : length (data_bytes (crowded_twice 112 106)) ≡ 499
  unfolding data_bytes enclosed widths_of record_bytes fixed_bytes groups_bytes group_bytes element_bytes length_bytes element_count kinds digits
  field1 = refl

  field2 : length (data_bytes (crowded_twice 255 255)) ≡ 1083
  unfolding data_bytes enclosed widths_of record_bytes fixed_bytes groups_bytes group_bytes element_bytes length_bytes element_count kinds digits
  field2 = refl

  form1 : length (form (crowded_twice 112 106)) ≡ 1593
  unfolding form form_entries records_entries groups_entries group_entries element_entry fixed_entry entry_bytes widths_of kinds le
  form1 = refl

  form2 : length (form (crowded_twice 255 255)) ≡ 3637
  unfolding form form_entries records_entries groups_entries group_entries element_entry fixed_entry entry_bytes widths_of kinds le
  form2 = refl

pub form-sizes : FormSizes
unfolding limits_of packet_bytes
form-sizes =
    record {
      enough = four-times;
      family1 =
          record {
            taken = crowded-taken (limits_of 1) 112 106 499 (lit< tt) (lit< tt) (omega (arith, record112)) (omega (arith, record106)) field1 (lit≤ tt) (lit< tt) (lit≤ tt);
            packet = length-framed (data_bytes (crowded_twice 112 106)) ∙ ap (λ (n : ℕ). n + 12) field1;
            formed = form1;
            closer = λ p f b e. (bounds1 p f (sizes (limits_of 1) p f b e)).0;
            longest = λ p f b e. (bounds1 p f (sizes (limits_of 1) p f b e)).1;
          };
      family2 =
          record {
            taken = crowded-taken (limits_of 2) 255 255 1083 (lit< tt) (lit< tt) (omega (arith, record255)) (omega (arith, record255)) field2 (lit≤ tt) (lit< tt) (lit≤ tt);
            packet = length-framed (data_bytes (crowded_twice 255 255)) ∙ ap (λ (n : ℕ). n + 12) field2;
            formed = form2;
            closer = λ p f b e. (bounds2 p f (sizes (limits_of 2) p f b e)).0;
            longest = λ p f b e. (bounds2 p f (sizes (limits_of 2) p f b e)).1;
          };
    }
