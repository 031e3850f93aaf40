-- The entries that are stored at once: that of the fixed fields, and that of an element.
use Prim.Native.Nat.{ℕ, ◌+◌, ◌-◌, ◌^◌, ◌≤◌, ◌<◌}
use native.Mathlib.Omega.{arith}
use mathlib.Core.Path.{◌≡◌, sym, ap, ap₂, ◌∙◌}
use mathlib.Core.List.{List, ◌++◌}
use lib.ListN.{length, take, drop, length-drop}
use lib.Seq.{sets, length-take-le}
use mir.Val.{Fits}
use mir.Syntax.{w64}
use Rattle.wire.specs.Numbers.{number_at, le}
use Rattle.wire.specs.Reading.{Reader, got}
use Rattle.avl.specs.declared.Widths.{Widths}
use Rattle.avl.specs.Records.{Element}
use Rattle.avl.specs.RecordReader.{value_size, element, fixed_fields}
use Rattle.store.specs.Stores.{Stored}
use Rattle.store.specs.Entries.{entry_bytes}
use Rattle.tlv.specs.Form.{fixed_entry, element_entry}
use Rattle.traverse.specs.Texts.{element_text}
use Rattle.traverse.specs.Copying.{Ready, Copies}
use Rattle.traverse.proofs.CopyLaws.{moved, copies_of}
use Rattle.form.specs.Moves.{entry_text, fixed_text}
use Rattle.avl.proofs.Inversion.{fixed_at, fixed-read, ElementRead, element-read, size-read}

-- a place to store at is a small number, and so is one a little further on
module _ {A : Type 0} {m : Reader A} {s : List ℕ} {from to : ℕ} (k : Ready m s from to) where
  pub near : to ≤ 2 ^ 36
  near = omega (arith, k.small, k.inside, k.behind)

  pub near_on : (i : ℕ) → i ≤ 2 ^ 36 → to + i ≤ 2 ^ 40
  near_on i h = omega (arith, near)

  pub near_fits : (i : ℕ) → i ≤ 2 ^ 36 → Fits w64 (to + i)
  near_fits i h = let l = near_on i h in omega arith

-- ---- the fixed fields

module _ (w : Widths) {s : List ℕ} {at to : ℕ} (k : Ready (fixed_fields w) s at to) where
  pub fixed-inside : at + 24 + w.event + w.generation ≤ length s
  fixed-inside = let f = (fixed-read w s at).if-got _ _ k.reads in omega (arith, f.inside, f.end)

  pub fixed-fits : Fits w64 (at + 24 + w.event + w.generation)
  fixed-fits = omega (arith, fixed-inside, k.small)

  -- a field of the first 24 bytes
  pub field-inside : (i w : ℕ) → i + w ≤ 24 → w ≤ 8 → (at + i + w ≤ length s) × (w ≤ 8) × (i ≤ 24) × (to ≤ 2 ^ 36)
  field-inside i w h l = (omega (arith, fixed-inside), l, omega arith, near k)

  pub fixed-copied : {before after : List ℕ} {next : ℕ} → Stored (fixed_text at (fixed_at w s at)) before after to next
      → Copies (fixed_fields w) fixed_text s at to before after (moved (at + 24 + w.event + w.generation) (to + 31))
  unfolding entry_bytes fixed_entry le
  fixed-copied {before} e =
      let f = (fixed-read w s at).if-got _ _ k.reads in
      copies_of k.reads (ap (λ (n : ℕ). moved n (to + 31)) (sym f.end)) (e.buffer ∙ ap (λ x. sets before to (fixed_text at x)) (sym f.is))

-- ---- an element

module _ (w : Widths) (kind : ℕ) {s : List ℕ} {at to : ℕ} (k : Ready (element w kind) s at to) where
  parts : ElementRead w kind s at k.content k.next
  parts = (element-read w kind s at).if-got _ _ k.reads

  pub size-stands : kind ≡ 9 → at + w.id + 2 ≤ length s
  size-stands = ((size-read kind s (at + w.id)).if-got _ _ parts.sized).stands

  pub id-inside : at + w.id ≤ length s
  id-inside = parts.room

  module _ {size start : ℕ} (is : value_size kind s (at + w.id) ≡ got size start) where
    sizes : (parts.size ≡ size) × (parts.start ≡ start)
    sizes = let e = parts.sized in (cc, cc)

    pub value-inside : start + size ≤ length s
    value-inside = omega (arith, parts.inside, sizes.0, sizes.1)

    pub size_small : size < 2 ^ 32
    size_small = omega (arith, value-inside, k.small)

    abbrev value : List ℕ
    value = take (start + size - start) (drop start s)

    value-is : value ≡ take size (drop start s)
    value-is = let same : start + size - start ≡ size = omega arith in ap (λ (n : ℕ). take n (drop start s)) same

    pub value-long : length value ≡ size
    value-long = ap length value-is ∙ length-take-le size (drop start s) (simp length-drop (omega (arith, value-inside)))

    pub element-copied : {before after : List ℕ} {next : ℕ} → Stored (((le 2 (2 + size) ++ le 2 kind) ++ le 2 (number_at s at w.id)) ++ value) before after to next
        → Copies (element w kind) (element_text entry_text w kind) s at to before after (moved (start + size) (to + 6 + size))
    unfolding entry_bytes element_entry le
    element-copied {before} e =
        let x : Element = record { id = number_at s at w.id; value = value } in
        let content : k.content ≡ x =
        parts.is
        ∙ ap₂ (λ (i j : ℕ). record { id = number_at s at w.id; value = take i (drop j s) }) sizes.0 sizes.1
        ∙ ap (λ (v : List ℕ). record { id = number_at s at w.id; value = v }) (sym value-is)
        in
        let end : k.next ≡ start + size = omega (arith, parts.end, sizes.0, sizes.1) in
        let entry : ((le 2 (2 + size) ++ le 2 kind) ++ le 2 (number_at s at w.id)) ++ value ≡ element_text entry_text w kind at x =
        ap (λ (n : ℕ). le 2 n ++ (le 2 kind ++ (le 2 (number_at s at w.id) ++ value))) (omega (arith, value-long))
        in
        copies_of (k.reads ∙ ap₂ got content end) (ap (moved (start + size)) (omega (arith, value-long))) (e.buffer ∙ ap (sets before to) entry)
