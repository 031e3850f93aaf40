-- How long a form is beside its data field, from the layouts. Before its value an element has six bytes in the form, and its ID in the packet, with a length where it is variable; before its elements a record has 31 bytes in the form, and at least 30 in the packet.
use Rattle.std.specs.Prelude.{Ok}
use Prim.Native.Nat.{ℕ, ◌+◌, ◌*◌, ◌^◌, ◌≤◌, ◌<◌}
use native.Mathlib.Nat.{mul-add, suc-mul}
use native.Mathlib.Omega.{arith}
use mathlib.Core.Path.{◌≡◌, ap, ◌∙◌}
use mathlib.Core.Bool.{Bool, true, false}
use mathlib.Core.List.{List, [], ◌∷◌, ◌++◌}
use mathlib.Core.Logic.{◌⊎◌, inl, inr, ⊎_elim}
use lib.ListN.{length, length-append}
use lib.Dec.{eqb}
use Rattle.wire.specs.Numbers.{Bytes, be, le, pick}
use Rattle.wire.specs.Sequences.{joined, All}
use Rattle.wire.proofs.Accepting.{pick-either}
use Rattle.wire.proofs.Widths.{length_digits}
use Rattle.wire.proofs.Enclosed.{length-enclosed}
use Rattle.avl.specs.declared.Widths.{Widths}
use Rattle.avl.specs.Codecs.{codec8, codec8_e, codec16, widths_of, kinds}
use Rattle.avl.specs.Records.{Element, AvlRecord, ElementRules, GroupsRules, RecordRules, element_count, element_bytes, group_bytes, groups_bytes, record_bytes}
use Rattle.avl.specs.DataField.{AvlData, DataRules, data_bytes, read_data}
use Rattle.avl.proofs.DataLaws.{data-exact}
use Rattle.walk.proofs.KindLaws.{KindRange, kinds-range}
use Rattle.element.specs.Elements.{lead_size, fixed_size}
use Rattle.element.proofs.ElementLaws.{length-element, length-record}
use Rattle.store.specs.Entries.{entry_bytes}
use Rattle.tlv.specs.Form.{fixed_entry, element_entry, group_entries, groups_entries, records_entries, form_entries, form}
use Rattle.traverse.proofs.PaceLaws.{joined-append}

-- how many elements records have
abbrev elements_in : List AvlRecord → ℕ
elements_in [] = 0
elements_in (r ∷ rs) = element_count r.groups + elements_in rs

module _ (w : Widths) where
  -- so many elements, with so many bytes in the form and in the packet
  abbrev Sized : ℕ → ℕ → ℕ → Type 0
  Sized n text bytes = (text + w.id * n ≤ bytes + 6 * n) × (n + w.id * n ≤ bytes)

  element-sized : (kind : ℕ) (e : Element) → 1 ≤ kind → ElementRules w kind e → Sized 1 (length (entry_bytes (element_entry kind e))) (length (element_bytes w kind e))
  unfolding entry_bytes element_entry lead_size le
  element-sized kind e h r = let k = go (eqb kind 9) r.size (length-element w kind e) in (omega (arith, k.0), omega (arith, k.1))
    where
      go : (b : Bool) → pick b (length e.value < 256 ^ 2) (length e.value ≡ kind) → length (element_bytes w kind e) ≡ w.id + pick b 2 0 + length e.value
          → (w.id + length e.value ≤ length (element_bytes w kind e)) × (w.id + 1 ≤ length (element_bytes w kind e))
      go true k l = (omega (arith, l), omega (arith, l))
      go false k l = (omega (arith, l), omega (arith, l, k, h))

  group-sized : (kind : ℕ) (g : List Element) → 1 ≤ kind → All (ElementRules w kind) g → Sized (length g) (length (joined entry_bytes (group_entries kind g))) (length (joined (element_bytes w kind) g))
  unfolding group_entries
  group-sized kind [] h r = (omega arith, omega arith)
  group-sized kind (e ∷ g) h r =
      let one = element-sized kind e h r.0 in
      let more = group-sized kind g h r.1 in
      let text = length-append (entry_bytes (element_entry kind e)) (joined entry_bytes (group_entries kind g)) in
      let bytes = length-append (element_bytes w kind e) (joined (element_bytes w kind) g) in
      let ids = mul-add w.id 1 (length g) in
      (omega (arith, one.0, more.0, text, bytes, ids), omega (arith, one.1, more.1, bytes, ids))

  -- with the counts of the groups
  groups-sized : (ks : List ℕ) (gs : List (List Element)) → All KindRange ks → GroupsRules w ks gs
      → Sized (element_count gs) (length (joined entry_bytes (groups_entries ks gs)) + length ks * w.count) (length (groups_bytes w ks gs))
      × (element_count gs + w.id * element_count gs + length ks * w.count ≤ length (groups_bytes w ks gs))
  unfolding groups_entries groups_bytes group_bytes element_count
  groups-sized [] [] h r = ((omega arith, omega arith), omega arith)
  groups-sized [] (g ∷ gs) h r = absurd r
  groups-sized (k ∷ ks) [] h r = absurd r
  groups-sized (k ∷ ks) (g ∷ gs) h r =
      let one = group-sized k g h.0.0 r.0.each in
      let more = groups-sized ks gs h.1 r.1 in
      let text = ap length (joined-append entry_bytes (group_entries k g) (groups_entries ks gs)) ∙ length-append (joined entry_bytes (group_entries k g)) (joined entry_bytes (groups_entries ks gs)) in
      let bytes = length-append (be w.count (length g) ++ joined (element_bytes w k) g) (groups_bytes w ks gs) in
      let first = length-append (be w.count (length g)) (joined (element_bytes w k) g) in
      let count = length_digits 256 w.count (length g) in
      let ids = mul-add w.id (length g) (element_count gs) in
      let counts = suc-mul (length ks) w.count in
      ((omega (arith, one.0, more.0.0, text, bytes, first, count, ids, counts), omega (arith, one.1, more.0.1, bytes, first, ids)), omega (arith, one.1, more.1, bytes, first, count, ids, counts))

  -- what stands before a record's elements in the packet, counts among it
  abbrev lead : ℕ
  lead = fixed_size w + length (kinds w) * w.count

  record-sized : (r : AvlRecord) → GroupsRules w (kinds w) r.groups
      → (length (entry_bytes (fixed_entry r.fixed) ++ joined entry_bytes (groups_entries (kinds w) r.groups)) + w.id * element_count r.groups + lead ≤ length (record_bytes w r) + 6 * element_count r.groups + 31)
      × (element_count r.groups + w.id * element_count r.groups + lead ≤ length (record_bytes w r))
  unfolding entry_bytes fixed_entry le
  record-sized r h =
      let more = groups-sized (kinds w) r.groups (kinds-range w) h in
      let text = length-append (entry_bytes (fixed_entry r.fixed)) (joined entry_bytes (groups_entries (kinds w) r.groups)) in
      (omega (arith, more.0.0, text, length-record w r), omega (arith, more.1, length-record w r))

  -- records one behind another
  records-sized : (longest : ℕ) (rs : List AvlRecord) → All (RecordRules longest w) rs
      → (length (joined entry_bytes (records_entries (kinds w) rs)) + w.id * elements_in rs + length rs * lead ≤ length (joined (record_bytes w) rs) + 6 * elements_in rs + 31 * length rs)
      × (elements_in rs + w.id * elements_in rs + length rs * lead ≤ length (joined (record_bytes w) rs))
      × (elements_in rs + length rs ≤ length rs * 256 ^ w.count)
      × (length (joined (record_bytes w) rs) ≤ length rs * longest)
  unfolding records_entries
  records-sized longest [] h = (omega arith, omega arith, omega arith, omega arith)
  records-sized longest (r ∷ rs) h =
      let one = record-sized r h.0.groups_keep in
      let more = records-sized longest rs h.1 in
      let own = entry_bytes (fixed_entry r.fixed) in
      let gs = joined entry_bytes (groups_entries (kinds w) r.groups) in
      let behind = joined entry_bytes (records_entries (kinds w) rs) in
      let whole = length-append own (joined entry_bytes (groups_entries (kinds w) r.groups ++ records_entries (kinds w) rs)) in
      let rest = ap length (joined-append entry_bytes (groups_entries (kinds w) r.groups) (records_entries (kinds w) rs)) ∙ length-append gs behind in
      let first = length-append own gs in
      let bytes = length-append (record_bytes w r) (joined (record_bytes w) rs) in
      let ids = mul-add w.id (element_count r.groups) (elements_in rs) in
      let leads = suc-mul (length rs) lead in (
        omega (arith, one.0, more.0, whole, rest, first, bytes, ids, leads),
        omega (arith, one.1, more.1, bytes, ids, leads),
        omega (arith, h.0.total_fits, more.2, suc-mul (length rs) (256 ^ w.count)),
        omega (arith, h.0.size, more.3, bytes, suc-mul (length rs) longest),
      )

-- what comes of it for every codec: an element adds at most five bytes and has at least two, a record adds at most one and has at least 30; where a total has two bytes, an ID has two
record Laid (longest : ℕ) (w : Widths) (rs : List AvlRecord) : Type 0 where
  text : length (joined entry_bytes (records_entries (kinds w) rs)) ≤ length (joined (record_bytes w) rs) + 5 * elements_in rs + length rs
  least : 2 * elements_in rs + 30 * length rs ≤ length (joined (record_bytes w) rs)
  few : (elements_in rs ≤ 255 * length rs) ⊎ (3 * length (joined entry_bytes (records_entries (kinds w) rs)) ≤ 7 * length (joined (record_bytes w) rs))
  most : length (joined (record_bytes w) rs) ≤ longest * length rs

module _ (longest : ℕ) (rs : List AvlRecord) where
  abbrev Each : Widths → Type 0
  Each w = All (RecordRules longest w) rs → Laid longest w rs

  eight : Each codec8
  unfolding kinds fixed_size
  eight h =
      let s = records-sized codec8 longest rs h in
      record { text = omega (arith, s.0); least = omega (arith, s.1); few = inl (omega (arith, s.2)); most = omega (arith, s.3) }

  extended : Each codec8_e
  unfolding kinds fixed_size
  extended h =
      let s = records-sized codec8_e longest rs h in
      record { text = omega (arith, s.0); least = omega (arith, s.1); few = inr (omega (arith, s.0, s.1)); most = omega (arith, s.3) }

  sixteen : Each codec16
  unfolding kinds fixed_size
  sixteen h =
      let s = records-sized codec16 longest rs h in
      record { text = omega (arith, s.0); least = omega (arith, s.1); few = inl (omega (arith, s.2)); most = omega (arith, s.3) }

  laid : (codec : ℕ) → Each (widths_of codec)
  unfolding widths_of
  laid codec = pick-either Each (eqb codec 0x08) codec8 (pick (eqb codec 0x8E) codec8_e codec16) eight (pick-either Each (eqb codec 0x8E) codec8_e codec16 extended sixteen)

-- of a data field
pub record Measured (longest : ℕ) (a : AvlData) : Type 0 where
  pub elements : ℕ
  pub text : length (form a) + 5 ≤ length (data_bytes a) + 5 * elements + length a.records + 7
  pub least : 2 * elements + 30 * length a.records + 3 ≤ length (data_bytes a)
  pub few : (elements ≤ 255 * length a.records) ⊎ (3 * length (form a) + 6 ≤ 7 * length (data_bytes a))
  pub most : length (data_bytes a) ≤ longest * length a.records + 3

pub measured : (longest : ℕ) (a : AvlData) → DataRules longest a → Measured longest a
unfolding form form_entries entry_bytes data_bytes le
measured longest a h =
    let l = laid longest a.records a.codec h.each in
    let size = length-enclosed a.codec (length a.records) (joined (record_bytes (widths_of a.codec)) a.records) in
    record {
      elements = elements_in a.records;
      text = omega (arith, l.text, size);
      least = omega (arith, l.least, size);
      few = ⊎_elim (λ k. inl k) (λ k. inr (omega (arith, k, size))) l.few;
      most = omega (arith, l.most, size);
    }

-- at most three and a half times, and so at most four times as long as its data field
pub form-size : (longest : ℕ) (d : List ℕ) (a : AvlData) → Bytes d → 3 ≤ length d → read_data longest d ≡ Ok a → length (form a) ≤ 4 * length d
form-size longest d a b l e =
    let k = (data-exact longest d a b l).0 e in
    let m = measured longest a k.0 in
    omega (arith, m.text, m.least, ap length k.1)
