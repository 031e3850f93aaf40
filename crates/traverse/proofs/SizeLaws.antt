-- How long a text is beside its bytes: `a` for each of its numbers is at most `b` for each byte, where that is so of each element and of what stands before a record's.
use Rattle.std.specs.Prelude.{Ok}
use Prim.Native.Nat.{ℕ, ◌+◌, ◌*◌, ◌^◌, ◌≤◌, ◌<◌}
use native.Mathlib.Nat.{mul-add}
use native.Mathlib.Omega.{arith}
use mathlib.Core.Path.{◌≡◌, sym, ap, ◌∙◌, subst}
use mathlib.Core.Bool.{Bool, true, false}
use mathlib.Core.List.{List, [], ◌∷◌, ◌++◌}
use lib.ListN.{length, length-append}
use lib.Dec.{eqb}
use Rattle.wire.specs.Numbers.{Bytes, be, pick}
use Rattle.wire.specs.Sequences.{joined, All}
use Rattle.wire.proofs.Widths.{length_digits}
use Rattle.wire.proofs.Enclosed.{length-enclosed}
use Rattle.avl.specs.declared.Widths.{Widths}
use Rattle.avl.specs.Codecs.{widths_of, kinds}
use Rattle.avl.specs.Records.{Element, AvlRecord, ElementRules, GroupsRules, RecordRules, length_bytes, element_bytes, group_bytes, groups_bytes, record_bytes}
use Rattle.avl.specs.DataField.{AvlData, data_bytes, read_data}
use Rattle.avl.proofs.DataLaws.{data-exact}
use Rattle.walk.proofs.KindLaws.{KindRange, kinds-range}
use Rattle.element.specs.Elements.{Located, fixed_size, locate_group, locate_groups}
use Rattle.element.proofs.ElementLaws.{length-record}
use Rattle.traverse.specs.Texts.{element_text, run_text, groups_text, record_text, records_text}
use Rattle.traverse.proofs.PaceLaws.{joined-append}

-- an element has an ID, and a value of at least a byte or the length of a variable one
pub element-least : (w : Widths) (kind : ℕ) (e : Element) → 1 ≤ w.id → 1 ≤ kind → ElementRules w kind e
    → (2 ≤ length (element_bytes w kind e)) × (1 + length e.value ≤ length (element_bytes w kind e))
unfolding element_bytes length_bytes
element-least w kind e named h r = simp (length-append, length_digits) (go (eqb kind 9) r.size)
  where
    go : (b : Bool) → pick b (length e.value < 256 ^ 2) (length e.value ≡ kind)
        → (2 ≤ w.id + (length (pick b (be 2 (length e.value)) []) + length e.value))
        × (1 + length e.value ≤ w.id + (length (pick b (be 2 (length e.value)) []) + length e.value))
    go true k = simp length_digits (omega (arith, named), omega (arith, named))
    go false k = (omega (arith, named, h, k), omega (arith, named))

module _ (a b : ℕ) where
  abbrev pub Within : List ℕ → List ℕ → Type 0
  Within text bytes = a * length text ≤ b * length bytes

  within_none : (s : List ℕ) → Within [] s
  within_none s = omega arith

  -- one behind another
  within-append : (x y s t : List ℕ) → Within x s → Within y t → Within (x ++ y) (s ++ t)
  within-append x y s t h k =
      omega (arith, h, k, ap (λ (n : ℕ). a * n) (length-append x y) ∙ mul-add a (length x) (length y), ap (λ (n : ℕ). b * n) (length-append s t) ∙ mul-add b (length s) (length t))

  -- bytes that have no text
  within-behind : (y s t : List ℕ) → Within y t → Within y (s ++ t)
  within-behind y s t k = within-append [] y s t (within_none s) k

  module _ (f : Located → List ℕ) (w : Widths) (one : (kind at : ℕ) (e : Element) → 1 ≤ kind → ElementRules w kind e → Within (element_text f w kind at e) (element_bytes w kind e)) where
    run-size : (kind at : ℕ) (g : List Element) → 1 ≤ kind → All (ElementRules w kind) g → Within (run_text f w kind at g) (joined (element_bytes w kind) g)
    unfolding locate_group
    run-size kind at [] h r = within_none []
    run-size kind at (e ∷ g) h r =
        within-append (element_text f w kind at e) (run_text f w kind (at + length (element_bytes w kind e)) g) (element_bytes w kind e) (joined (element_bytes w kind) g) (one kind at e h r.0) (run-size kind (at + length (element_bytes w kind e)) g h r.1)

    groups-size : (ks : List ℕ) (at : ℕ) (gs : List (List Element)) → All KindRange ks → GroupsRules w ks gs → Within (groups_text f w ks at gs) (groups_bytes w ks gs)
    unfolding locate_groups groups_bytes group_bytes
    groups-size [] at gs h r = within_none []
    groups-size (k ∷ ks) at [] h r = within_none []
    groups-size (k ∷ ks) at (g ∷ gs) h r =
        let next = at + length (group_bytes w k g) in
        subst (λ (l : List ℕ). Within l (group_bytes w k g ++ groups_bytes w ks gs)) (sym (joined-append f (locate_group w k (at + w.count) g) (locate_groups w ks next gs)))
        (within-append (run_text f w k (at + w.count) g) (groups_text f w ks next gs) (group_bytes w k g) (groups_bytes w ks gs)
        (within-behind (run_text f w k (at + w.count) g) (be w.count (length g)) (joined (element_bytes w k) g) (run-size k (at + w.count) g h.0.0 r.0.each))
        (groups-size ks next gs h.1 r.1))

    -- the fixed fields make up for what stands before the elements
    module _ (head : ℕ → AvlRecord → List ℕ) (first : (at : ℕ) (r : AvlRecord) → a * length (head at r) ≤ b * fixed_size w) where
      pub record-size : (at : ℕ) (r : AvlRecord) → GroupsRules w (kinds w) r.groups → Within (record_text f w head at r) (record_bytes w r)
      record-size at r h =
          let many = groups_text f w (kinds w) (at + fixed_size w) r.groups in
          omega (
            arith,
            first at r,
            groups-size (kinds w) (at + fixed_size w) r.groups (kinds-range w) h,
            ap (λ (n : ℕ). a * n) (length-append (head at r) many) ∙ mul-add a (length (head at r)) (length many),
            ap (λ (n : ℕ). b * n) (length-record w r) ∙ mul-add b (fixed_size w) (length (groups_bytes w (kinds w) r.groups)),
          )

      records-size : (longest at : ℕ) (rs : List AvlRecord) → All (RecordRules longest w) rs → Within (records_text (record_text f w head) w at rs) (joined (record_bytes w) rs)
      unfolding records_text
      records-size longest at [] h = within_none []
      records-size longest at (r ∷ rs) h =
          within-append (record_text f w head at r) (records_text (record_text f w head) w (at + length (record_bytes w r)) rs) (record_bytes w r) (joined (record_bytes w) rs) (record-size at r h.0.groups_keep) (records-size longest (at + length (record_bytes w r)) rs h.1)

      -- the records of an accepted data field, whose codec and counts are three bytes more
      pub field-size : (longest at : ℕ) (d : List ℕ) (x : AvlData) → w ≡ widths_of x.codec → Bytes d → 3 ≤ length d → read_data longest d ≡ Ok x
          → a * length (records_text (record_text f w head) w at x.records) + b * 3 ≤ b * length d
      unfolding data_bytes
      field-size longest at d x is c l e =
          let k = (data-exact longest d x c l).0 e in
          let body = joined (record_bytes w) x.records in
          let bytes : length d ≡ length body + 3 =
          omega (arith, ap length k.1, length-enclosed x.codec (length x.records) (joined (record_bytes (widths_of x.codec)) x.records), ap (λ (v : Widths). length (joined (record_bytes v) x.records)) is) in
          omega (
            arith,
            records-size longest at x.records (subst (λ (v : Widths). All (RecordRules longest v) x.records) (sym is) k.0.each),
            ap (λ (n : ℕ). b * n) bytes ∙ mul-add b (length body) 3,
          )
