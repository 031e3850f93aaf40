-- A table has at most one word for every two bytes: of an element, and of a record.
use Prim.Native.Nat.{ℕ, ◌+◌, ◌*◌, ◌≤◌}
use native.Mathlib.Omega.{arith}
use mathlib.Core.Path.{◌≡◌, refl}
use mathlib.Core.List.{List, [], ◌∷◌}
use lib.ListN.{length}
use Rattle.wire.specs.Sequences.{joined}
use Rattle.avl.specs.declared.Widths.{Widths}
use Rattle.avl.specs.Codecs.{kinds}
use Rattle.avl.specs.Records.{Element, AvlRecord, element_count, ElementRules, GroupsRules, element_bytes, record_bytes}
use Rattle.element.specs.Elements.{Located, fixed_size, locate_groups}
use Rattle.element.proofs.ElementLaws.{length-groups}
use Rattle.traverse.specs.Texts.{element_text}
use Rattle.traverse.proofs.SizeLaws as sizes
use Rattle.traverse.proofs.SizeLaws.{Within, element-least}
use Rattle.contents.specs.Words.{quad, record_words}
use Rattle.contents.specs.Listing.{listed_word, head_text}

-- a word for each
pub length-words : {A : Type 0} (word : A → ℕ) (l : List A) → length (joined (λ a. word a ∷ []) l) ≡ length l
length-words word [] = refl
length-words word (a ∷ l) = omega (arith, length-words word l)

module _ (w : Widths) (named : 1 ≤ w.id) where
  pub word_size : (base kind at : ℕ) (e : Element) → 1 ≤ kind → ElementRules w kind e → Within 2 1 (element_text (listed_word base) w kind at e) (element_bytes w kind e)
  word_size base kind at e h r = omega (arith, (element-least w kind e named h r).0)

  pub head-size : (base at : ℕ) (r : AvlRecord) → 2 * length (head_text base w at r) ≤ 1 * fixed_size w
  unfolding record_words fixed_size
  head-size base at r = omega arith

  -- a record's own four words, and one for each element
  pub record-size : (r : AvlRecord) → GroupsRules w (kinds w) r.groups → 2 * (4 + element_count r.groups) ≤ length (record_bytes w r)
  unfolding record_words
  record-size r h =
      let placed = locate_groups w (kinds w) (0 + fixed_size w) r.groups in
      omega (
        arith,
        sizes.record-size 2 1 (listed_word 0) w (word_size 0) (head_text 0 w) (head-size 0) 0 r h,
        length-words (λ (e : Located). quad e.id e.kind (0 + e.place) (length e.value)) placed,
        length-groups w (kinds w) (0 + fixed_size w) r.groups h,
      )
