-- Texts of lists join.
use Prim.Native.Nat.{ℕ, ◌+◌}
use native.Mathlib.Omega.{arith}
use mathlib.Core.Path.{◌≡◌, refl, sym, ap, ◌∙◌}
use mathlib.Core.List.{List, [], ◌∷◌, ◌++◌, append_assoc}
use lib.ListN.{length}
use Rattle.wire.specs.Numbers.{Bytes}
use Rattle.wire.specs.Sequences.{joined}
use Rattle.avl.specs.declared.Widths.{Widths}
use Rattle.avl.specs.Records.{AvlRecord, element_bytes, group_bytes}
use Rattle.avl.specs.RecordReader.{element, group, plain_record}
use Rattle.avl.proofs.Inversion.{plain_size}
use Rattle.avl.proofs.RecordLaws.{group-exact}
use Rattle.element.specs.Elements.{Located, locate_group, locate_groups}
use Rattle.element.proofs.ElementLaws.{length-element}
use Rattle.element.proofs.ReadLaws.{element-read}
use Rattle.traverse.specs.Texts.{element_text, run_text, group_text, groups_text, records_text}
use Rattle.traverse.proofs.CopyLaws.{Joins}

pub joined-append : {A : Type 0} (f : A → List ℕ) (a b : List A) → joined f (a ++ b) ≡ joined f a ++ joined f b
joined-append f [] b = refl
joined-append f (x ∷ a) b = ap (λ (l : List ℕ). f x ++ l) (joined-append f a b) ∙ sym (append_assoc (f x) (joined f a) (joined f b))

module _ (f : Located → List ℕ) (w : Widths) where
  pub run-joins : (kind : ℕ) (s : List ℕ) → Joins (element w kind) (element_text f w kind) (run_text f w kind) (run_text f w kind) s
  unfolding locate_group
  run-joins kind s at mid e g h k =
      let end : at + length (element_bytes w kind e) ≡ mid = omega (arith, length-element w kind e, ((element-read w kind s at).if-got _ _ k).ends) in
      ap (λ (n : ℕ). element_text f w kind at e ++ run_text f w kind n g) end

  pub groups-joins : (k : ℕ) (ks : List ℕ) (s : List ℕ) → Bytes s → Joins (group w k) (group_text f w k) (groups_text f w ks) (groups_text f w (k ∷ ks)) s
  unfolding locate_groups
  groups-joins k ks s b at mid g gs h e =
      let end = (((group-exact w k).sound s at b h).if-got _ _ e).0.size in
      joined-append f (locate_group w k (at + w.count) g) (locate_groups w ks (at + length (group_bytes w k g)) gs)
      ∙ ap (λ (n : ℕ). group_text f w k at g ++ groups_text f w ks n gs) (sym end)

-- records, whatever the text of one is
pub records-joins : (text : ℕ → AvlRecord → List ℕ) (w : Widths) (s : List ℕ) → Bytes s → Joins (plain_record w) text (records_text text w) (records_text text w) s
unfolding records_text
records-joins text w s b at mid r rs h e =
    ap (λ (n : ℕ). text at r ++ records_text text w n rs) (sym (plain_size w s at b h e).1)
