-- The texts along a data field are the entries of its form; and how far storing them gets ahead of reading.
use Prim.Native.Nat.{ℕ, ◌+◌, ◌≤◌}
use native.Mathlib.Omega.{arith}
use mathlib.Core.Path.{◌≡◌, refl, sym, ap, ap₂, ◌∙◌}
use mathlib.Core.List.{List, [], ◌∷◌, ◌++◌, append_assoc}
use lib.ListN.{length, drop, length-drop}
use lib.Seq.{length-take-le}
use Rattle.wire.specs.Numbers.{le}
use Rattle.wire.specs.Sequences.{joined}
use Rattle.wire.proofs.Exactness.{meets-weaken}
use Rattle.avl.specs.declared.Widths.{Widths}
use Rattle.avl.specs.Codecs.{kinds}
use Rattle.avl.specs.Records.{Element, AvlRecord, element_bytes, group_bytes, record_bytes}
use Rattle.avl.specs.RecordReader.{element}
use Rattle.avl.proofs.Inversion.{size-read, element-read}
use Rattle.element.specs.Elements.{locate_group, locate_groups, fixed_size}
use Rattle.store.specs.Entries.{Entry, entry_bytes}
use Rattle.tlv.specs.Form.{fixed_entry, element_entry, group_entries, groups_entries, records_entries}
use Rattle.traverse.specs.Texts.{element_text, run_text, groups_text, record_text, records_text}
use Rattle.traverse.proofs.CopyLaws.{Paced}
use Rattle.traverse.proofs.PaceLaws.{joined-append}
use Rattle.form.specs.Moves.{entry_text, head_text}

-- the bytes of entries
abbrev pub laid : List Entry → List ℕ
laid es = joined entry_bytes es

module _ (w : Widths) where
  run-laid : (kind at : ℕ) (g : List Element) → run_text entry_text w kind at g ≡ laid (group_entries kind g)
  unfolding locate_group group_entries
  run-laid kind at [] = refl
  run-laid kind at (e ∷ g) = ap (λ (l : List ℕ). entry_bytes (element_entry kind e) ++ l) (run-laid kind (at + length (element_bytes w kind e)) g)

  groups-laid : (ks : List ℕ) (at : ℕ) (gs : List (List Element)) → groups_text entry_text w ks at gs ≡ laid (groups_entries ks gs)
  unfolding locate_groups groups_entries
  groups-laid [] at gs = refl
  groups-laid (k ∷ ks) at [] = refl
  groups-laid (k ∷ ks) at (g ∷ gs) =
      joined-append entry_text (locate_group w k (at + w.count) g) _
      ∙ ap₂ (λ (a b : List ℕ). a ++ b) (run-laid k _ g) (groups-laid ks (at + length (group_bytes w k g)) gs)
      ∙ sym (joined-append entry_bytes (group_entries k g) (groups_entries ks gs))

  pub records-laid : (at : ℕ) (rs : List AvlRecord) → records_text (record_text entry_text w head_text) w at rs ≡ laid (records_entries (kinds w) rs)
  unfolding records_text records_entries
  records-laid at [] = refl
  records-laid at (r ∷ rs) =
      ap₂ (λ (a b : List ℕ). (entry_bytes (fixed_entry r.fixed) ++ a) ++ b) (groups-laid (kinds w) (at + fixed_size w) r.groups) (records-laid (at + length (record_bytes w r)) rs)
      ∙ append_assoc (entry_bytes (fixed_entry r.fixed)) (laid (groups_entries (kinds w) r.groups)) (laid (records_entries (kinds w) rs))
      ∙ ap (λ (l : List ℕ). entry_bytes (fixed_entry r.fixed) ++ l) (sym (joined-append entry_bytes (groups_entries (kinds w) r.groups) (records_entries (kinds w) rs)))

  -- ---- the pace

  pub paced-element : (kind : ℕ) → 1 ≤ kind → Paced (element w kind) (element_text entry_text w kind)
  unfolding entry_bytes element_entry le
  paced-element kind h =
      record {
        pace = λ s at b i. meets-weaken (element-read w kind s at) (λ e n k.
            let sized = ((size-read kind s (at + w.id)).if-got _ _ k.sized).paced h in
            let value : length e.value ≡ k.size = ap (λ (x : Element). length x.value) k.is ∙ length-take-le k.size (drop k.start s) (simp length-drop (omega (arith, k.inside))) in
            (omega (arith, k.end, k.inside), omega (arith, sized, value, k.end)));
      }
