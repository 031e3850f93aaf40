-- The words of a record and of its elements, stored where they belong.
use Prim.Native.Nat.{ℕ, ◌+◌, ◌≤◌}
use native.Mathlib.Omega.{arith}
use mathlib.Core.Path.{◌≡◌, sym, ap, ◌∙◌}
use mathlib.Core.List.{List}
use lib.ListN.{length, set}
use Rattle.wire.specs.Reading.{got}
use Rattle.wire.proofs.Exactness.{meets-weaken}
use Rattle.avl.specs.declared.Widths.{Widths}
use Rattle.avl.specs.Records.{Element}
use Rattle.avl.specs.RecordReader.{element}
use Rattle.element.specs.declared.Value.{Value}
use Rattle.element.specs.Search.{ReadableElement, value_at}
use Rattle.element.proofs.ReadLaws.{ElementRead, element-read}
use Rattle.traverse.specs.Texts.{element_text}
use Rattle.traverse.specs.Copying.{Ready, Copies}
use Rattle.traverse.proofs.CopyLaws.{moved, copies_of, Paced}
use Rattle.contents.specs.Words.{quad}
use Rattle.contents.specs.Listing.{listed_word}

-- ---- an element

module _ (w : Widths) (kind : ℕ) {s : List ℕ} {at to : ℕ} (k : Ready (element w kind) s at to) where
  parts : ElementRead w kind s at k.content k.next
  parts = (element-read w kind s at).if-got _ _ k.reads

  pub value-ready : ReadableElement w kind s at
  value-ready = record { content = k.content; next = k.next; reads = k.reads }

  module _ {v : Value} (is : (e : Element) (n : ℕ) → element w kind s at ≡ got e n → v ≡ value_at w kind at e) where
    value-is : v ≡ value_at w kind at k.content
    value-is = is _ _ k.reads

    pub value-end : v.offset + v.size ≡ k.next
    unfolding value_at
    value-end = ap (λ (x : Value). x.offset + x.size) value-is ∙ sym parts.ends

    pub value-inside : v.offset + v.size ≤ length s
    value-inside = omega (arith, value-end, parts.inside)

    pub value-copied : (base : ℕ) {before after : List ℕ} {word : ℕ} → word ≡ quad v.id v.kind (base + v.offset) v.size → after ≡ set before to word
        → Copies (element w kind) (element_text (listed_word base) w kind) s at to before after (moved (v.offset + v.size) (to + 1))
    unfolding value_at
    value-copied base {before} e stored =
        let same = ap (λ (x : Value). quad x.id x.kind (base + x.offset) x.size) value-is in
        copies_of k.reads (ap (λ (n : ℕ). moved n (to + 1)) value-end) (stored ∙ ap (set before to) (e ∙ same))

-- a word for at least a byte
pub paced-value : (base : ℕ) (w : Widths) (kind : ℕ) → 1 ≤ kind → Paced (element w kind) (element_text (listed_word base) w kind)
paced-value base w kind h = record { pace = λ s at b i. meets-weaken (element-read w kind s at) (λ e n k. (k.inside, omega (arith, k.onward h))) }
