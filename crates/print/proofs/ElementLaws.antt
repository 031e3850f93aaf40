-- Elements: what is printed of one, how long that is, and that it keeps pace with its bytes.
use Prim.Native.Nat.{ℕ, ◌+◌, ◌-◌, ◌*◌, ◌^◌, ◌≤◌, ◌<◌}
use native.Mathlib.Omega.{arith}
use mathlib.Core.Path.{◌≡◌, refl, sym, ap, ap₂, ◌∙◌}
use mathlib.Core.Bool.{Bool, true, false}
use mathlib.Core.List.{List, [], ◌∷◌, ◌++◌, append-nil}
use lib.ListN.{length, length-append, take, drop, length-drop}
use lib.Seq.{sets, take_at, length-take-le}
use lib.Dec.{eqb}
use borrow.Author.Tests.{eq-eqb, ne_eqb}
use Rattle.avl.specs.Narrow.{Narrow}
use Rattle.wire.specs.Numbers.{Bytes, number_at, be, pick}
use Rattle.wire.specs.Reading.{Reader, got}
use Rattle.wire.proofs.Widths.{length_digits, number_lt, number-be, be-number}
use Rattle.wire.proofs.Accepting.{pick_true, pick-false}
use Rattle.wire.proofs.Exactness.{meets-weaken}
use Rattle.avl.specs.declared.Widths.{Widths}
use Rattle.avl.specs.Records.{Element, ElementRules, element_bytes}
use Rattle.avl.specs.RecordReader.{element}
use Rattle.avl.proofs.Inversion as Inversion
use Rattle.avl.proofs.RecordLaws.{element-exact}
use Rattle.element.specs.declared.Value.{Value}
use Rattle.element.specs.Elements.{lead_size}
use Rattle.element.specs.Search.{ReadableElement, value_at}
use Rattle.element.proofs.ElementLaws.{length-element}
use Rattle.element.proofs.ReadLaws.{ElementRead, element-read}
use Rattle.text.specs.Decimal.{decimal}
use Rattle.store.specs.Stores.{Stored}
use Rattle.traverse.specs.Texts.{element_text}
use Rattle.traverse.specs.Copying.{Ready, Copies}
use Rattle.traverse.proofs.CopyLaws.{moved, copies_of, Paced}
use Rattle.traverse.proofs.SizeLaws.{Within}
use Rattle.line.specs.Lines.{number, tag, quoted, printed_text}
use Rattle.line.specs.RecordLines.{printed_of}
use Rattle.print.specs.Printing.{printed}
use Rattle.text.proofs.DecimalLaws.{decimal-most}
use Rattle.print.proofs.DecimalLaws.{decimal-bytes}
use Rattle.print.proofs.TagLaws.{quoted-most}

-- a place to store at is a small number
module _ {A : Type 0} {m : Reader A} {s : List ℕ} {from to : ℕ} (k : Ready m s from to) where
  pub near : to ≤ 2 ^ 36
  near = omega (arith, k.small, k.inside, k.behind)

  -- and so is the one behind a number
  pub near-marked : (mark n : ℕ) {l o : List ℕ} {next : ℕ} → Stored (mark ∷ decimal n) l o to next → next ≤ 2 ^ 36 + 21
  near-marked mark n t = omega (arith, near, t.place, decimal-most n)

-- the number that bytes are, where they stand
pub number-taken : (s : List ℕ) (at w : ℕ) → Bytes s → at + w ≤ length s → number_at (take w (drop at s)) 0 w ≡ number_at s at w
number-taken s at w b h =
    let n = number_at s at w in
    let bytes : take w (drop at s) ≡ be w n = ap (take w) (be-number w s at b h) ∙ take_at (be w n) (drop (at + w) s) w (length_digits 256 w n) in
    ap (λ (l : List ℕ). number_at l 0 w) bytes ∙ number-be w n (be w n) 0 [] (number_lt s at w b) (sym (append-nil (be w n)))

-- ---- the two kinds of text

module _ (w : Widths) (kind at : ℕ) (e : Element) where
  pub tag-text : kind ≡ 9 → element_text printed w kind at e ≡ (44 ∷ decimal e.id) ++ (61 ∷ quoted e.value)
  unfolding printed_of printed_text
  tag-text is = ap (λ x. 44 ∷ printed_text x) (pick_true (eqb kind 9) (tag e.id e.value) (number e.id (number_at e.value 0 (length e.value))) (eq-eqb kind 9 is))

  pub number-text : (kind ≡ 9 → ⊥) → element_text printed w kind at e ≡ (44 ∷ decimal e.id) ++ (61 ∷ decimal (number_at e.value 0 (length e.value)))
  unfolding printed_of printed_text
  number-text is = ap (λ x. 44 ∷ printed_text x) (pick-false (eqb kind 9) (tag e.id e.value) (number e.id (number_at e.value 0 (length e.value))) (ne_eqb kind 9 is))

-- ---- an element that is read and stored

module _ (w : Widths) (kind : ℕ) {s : List ℕ} {at to : ℕ} (k : Ready (element w kind) s at to) where
  parts : ElementRead w kind s at k.content k.next
  parts = (element-read w kind s at).if-got _ _ k.reads

  pub value-ready : ReadableElement w kind s at
  value-ready = record { content = k.content; next = k.next; reads = k.reads }

  module _ {v : Value} (is : (e : Element) (n : ℕ) → element w kind s at ≡ got e n → v ≡ value_at w kind at e) where
    value-is : v ≡ value_at w kind at k.content
    value-is = is _ _ k.reads

    id-is : v.id ≡ k.content.id
    unfolding value_at
    id-is = ap (λ (x : Value). x.id) value-is

    start_is : v.offset ≡ at + lead_size w kind
    unfolding value_at
    start_is = ap (λ (x : Value). x.offset) value-is

    size-is : v.size ≡ length k.content.value
    unfolding value_at
    size-is = ap (λ (x : Value). x.size) value-is

    value-end : v.offset + v.size ≡ k.next
    value-end = omega (arith, start_is, size-is, parts.ends)

    pub value-inside : v.offset + v.size ≤ length s
    value-inside = omega (arith, value-end, parts.inside)

    value-stands : take v.size (drop v.offset s) ≡ k.content.value
    value-stands =
        let r = (Inversion.element-read w kind s at).if-got _ _ k.reads in
        let value : k.content.value ≡ take r.size (drop r.start s) = ap (λ (x : Element). x.value) r.is in
        let size : v.size ≡ r.size = omega (arith, size-is, ap length value, length-take-le r.size (drop r.start s) (simp length-drop (omega (arith, r.inside)))) in
        let start : v.offset ≡ r.start = omega (arith, size, value-end, r.end) in
        ap₂ (λ (n m : ℕ). take n (drop m s)) size start ∙ sym value

    pub fixed-size : (kind ≡ 9 → ⊥) → v.size ≡ kind
    fixed-size ne = size-is ∙ parts.size_is ∙ pick-false (eqb kind 9) _ _ (ne_eqb kind 9 ne)

    copied : (a : List ℕ) → element_text printed w kind at k.content ≡ a → {before after : List ℕ} {next : ℕ} → Stored a before after to next
        → Copies (element w kind) (element_text printed w kind) s at to before after (moved (v.offset + v.size) next)
    copied a e {before} t =
        copies_of k.reads (ap₂ moved value-end (t.place ∙ ap (λ (l : List ℕ). to + length l) (sym e))) (t.buffer ∙ ap (sets before to) (sym e))

    pub tag-copied : kind ≡ 9 → {before after : List ℕ} {next : ℕ}
        → Stored ((44 ∷ decimal v.id) ++ (61 ∷ quoted (take (v.offset + v.size - v.offset) (drop v.offset s)))) before after to next
        → Copies (element w kind) (element_text printed w kind) s at to before after (moved (v.offset + v.size) next)
    tag-copied nine t =
        let long : v.offset + v.size - v.offset ≡ v.size = omega arith in
        let value : take (v.offset + v.size - v.offset) (drop v.offset s) ≡ k.content.value = ap (λ (n : ℕ). take n (drop v.offset s)) long ∙ value-stands in
        copied _ (tag-text w kind at k.content nine ∙ (λ i. (44 ∷ decimal (sym id-is i)) ++ (61 ∷ quoted (sym value i)))) t

    pub number-copied : (kind ≡ 9 → ⊥) → {n : ℕ} → n ≡ number_at s v.offset kind → {before after : List ℕ} {next : ℕ}
        → Stored ((44 ∷ decimal v.id) ++ (61 ∷ decimal n)) before after to next
        → Copies (element w kind) (element_text printed w kind) s at to before after (moved (v.offset + v.size) next)
    number-copied ne {n} e t =
        let long = fixed-size ne in
        let room : v.offset + v.size ≤ length s = value-inside in
        let value : number_at k.content.value 0 (length k.content.value) ≡ n =
        ap₂ (λ (l : List ℕ) (m : ℕ). number_at l 0 m) (sym value-stands) (sym size-is)
        ∙ number-taken s v.offset v.size k.bytes room
        ∙ ap (number_at s v.offset) long
        ∙ sym e
        in
        copied _ (number-text w kind at k.content ne ∙ (λ i. (44 ∷ decimal (sym id-is i)) ++ (61 ∷ decimal (value i)))) t

-- ---- how long

-- four characters at most for each byte: three digits a byte, the comma and the equals sign for an ID and a value of a byte each
pub text-size : (w : Widths) (kind id place : ℕ) (value : List ℕ) → 1 ≤ w.id → id < 256 ^ w.id → Bytes value → (eqb kind 9 ≡ false → 1 ≤ length value)
    → length (printed (record { kind = kind; id = id; place = place; value = value })) ≤ 4 * (lead_size w kind + length value)
unfolding printed_of printed_text lead_size
text-size w kind id place value named small b some = go (eqb kind 9) refl
  where
    go : (t : Bool) → eqb kind 9 ≡ t → length (44 ∷ printed_text (pick t (tag id value) (number id (number_at value 0 (length value))))) ≤ 4 * (w.id + pick t 2 0 + length value)
    go true e = omega (arith, length-append (decimal id) (61 ∷ quoted value), decimal-bytes w.id id named small, quoted-most value)
    go false e =
        let n = number_at value 0 (length value) in
        omega (arith, named, some e, length-append (decimal id) (61 ∷ decimal n), decimal-bytes w.id id named small, decimal-bytes (length value) n (some e) (number_lt value 0 (length value) b))

pub element-size : (w : Widths) → 1 ≤ w.id → (kind at : ℕ) (e : Element) → 1 ≤ kind → ElementRules w kind e → Within 1 4 (element_text printed w kind at e) (element_bytes w kind e)
element-size w named kind at e h r =
    omega (
      arith,
      length-element w kind e,
      text-size w kind e.id (at + lead_size w kind) e.value named r.id_fits r.bytes (λ t. some (eqb kind 9) t r.size),
    )
  where
    some : (t : Bool) → t ≡ false → pick t (length e.value < 256 ^ 2) (length e.value ≡ kind) → 1 ≤ length e.value
    some true f k = absurd (let z : ◌≡◌ {A = ℕ} 0 1 = cc in omega arith)
    some false f k = omega (arith, h, k)

pub paced-element : (w : Widths) → Narrow w → (kind : ℕ) → 1 ≤ kind → Paced (element w kind) (element_text printed w kind)
paced-element w narrow kind h =
    record {
      pace = λ s at b i. meets-weaken ((element-exact w kind).sound s at b i) (λ e n k.
          (k.0.inside, omega (arith, k.0.size, element-size w narrow.named kind at e h k.1)));
    }
