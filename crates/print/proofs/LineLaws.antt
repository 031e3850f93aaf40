-- Lines: the leading fields, the elements and the end of the line, stored one behind another.
use Prim.Native.Nat.{ℕ, ◌+◌, ◌≤◌}
use native.Mathlib.Omega.{arith}
use mathlib.Core.Path.{◌≡◌, refl, sym, ap, ap₂, ◌∙◌}
use mathlib.Core.List.{List, [], ◌∷◌, ◌++◌, append-nil, append_assoc}
use lib.ListN.{length, length-append, set}
use lib.IntN.{ℤ}
use Rattle.wire.specs.Numbers.{signed}
use Rattle.wire.specs.Sequences.{joined}
use Rattle.wire.specs.Reading.{got}
use Rattle.avl.specs.declared.Widths.{Widths}
use Rattle.avl.specs.Codecs.{kinds}
use Rattle.avl.specs.Records.{Element, AvlRecord, element_bytes, group_bytes}
use Rattle.avl.specs.RecordReader.{groups, plain_record}
use Rattle.avl.proofs.Inversion.{fixed_at, RecordRead, record-read, FixedRead, fixed-read}
use Rattle.element.specs.Elements.{Located, locate_group, locate_groups, fixed_size, elements}
use Rattle.text.specs.Decimal.{decimal}
use Rattle.store.specs.Stores.{Stored}
use Rattle.store.proofs.StoredLaws.{stored-as, stored-then}
use Rattle.traverse.specs.declared.Moved.{Moved}
use Rattle.traverse.specs.Texts.{groups_text, record_text}
use Rattle.traverse.specs.Copying.{Ready, Copies, OnPace}
use Rattle.traverse.proofs.CopyLaws.{moved, copies_of}
use Rattle.traverse.proofs.PaceLaws.{joined-append}
use Rattle.line.specs.Pieces.{separated}
use Rattle.line.specs.Lines.{degrees, printed_text, texts, line_fields, line_bytes}
use Rattle.line.specs.RecordLines.{printed_of, printed_all, record_line}
use Rattle.print.specs.Printing.{printed, coordinate, leading, head_text, line_text}
use Rattle.text.proofs.DecimalLaws.{decimal-most}
use Rattle.print.proofs.DegreeLaws.{coordinate-few, stored-mark}

-- ---- the leading fields

-- twenty digits, two coordinates of twelve characters, twenty digits, and three commas
pub leading-most : (t x y v : ℕ) → length (leading t x y v) ≤ 67
unfolding leading
leading-most t x y v =
    omega (
      arith,
      length-append (decimal t) (coordinate x ++ (coordinate y ++ (44 ∷ decimal v))),
      length-append (coordinate x) (coordinate y ++ (44 ∷ decimal v)),
      length-append (coordinate y) (44 ∷ decimal v),
      decimal-most t,
      coordinate-few x,
      coordinate-few y,
      decimal-most v,
    )

pub leading-stored : (t x y v : ℕ) {p : ℕ} {f g : ℤ} {q : ℕ} → p ≡ t → f ≡ signed 4 x → g ≡ signed 4 y → q ≡ v → {l₀ l₁ l₂ l₃ l₄ : List ℕ} {to a b c d : ℕ}
    → Stored (decimal p) l₀ l₁ to a → Stored (44 ∷ degrees f) l₁ l₂ a b → Stored (44 ∷ degrees g) l₂ l₃ b c → Stored (44 ∷ decimal q) l₃ l₄ c d → Stored (leading t x y v) l₀ l₄ to d
unfolding leading
leading-stored t x y v e₁ e₂ e₃ e₄ s₁ s₂ s₃ s₄ =
    stored-then (stored-as (ap decimal e₁) s₁)
    (stored-then (stored-as (ap (λ (z : ℤ). 44 ∷ degrees z) e₂) s₂)
    (stored-then (stored-as (ap (λ (z : ℤ). 44 ∷ degrees z) e₃) s₃) (stored-as (ap (λ (n : ℕ). 44 ∷ decimal n) e₄) s₄)))

-- ---- the parts of a line

-- fields behind a first one
behind-first : (d : List ℕ) (l : List Located) → separated (d ∷ texts (printed_all l)) ≡ d ++ joined printed l
unfolding separated texts printed_all
behind-first d [] = sym (append-nil d)
behind-first d (e ∷ l) = ap (λ (x : List ℕ). d ++ (44 ∷ x)) (behind-first (printed_text (printed_of e)) l)

-- what is printed of an element does not tell where it stands
module _ (w : Widths) where
  run-anywhere : (kind at to : ℕ) (g : List Element) → joined printed (locate_group w kind at g) ≡ joined printed (locate_group w kind to g)
  unfolding locate_group printed_of
  run-anywhere kind at to [] = refl
  run-anywhere kind at to (e ∷ g) =
      ap (λ (l : List ℕ). printed (record { kind = kind; id = e.id; place = 0; value = e.value }) ++ l) (run-anywhere kind (at + length (element_bytes w kind e)) (to + length (element_bytes w kind e)) g)

  groups-anywhere : (ks : List ℕ) (at to : ℕ) (gs : List (List Element)) → joined printed (locate_groups w ks at gs) ≡ joined printed (locate_groups w ks to gs)
  unfolding locate_groups
  groups-anywhere [] at to gs = refl
  groups-anywhere (k ∷ ks) at to [] = refl
  groups-anywhere (k ∷ ks) at to (g ∷ gs) =
      joined-append printed (locate_group w k (at + w.count) g) (locate_groups w ks (at + length (group_bytes w k g)) gs)
      ∙ ap₂ (λ (a b : List ℕ). a ++ b) (run-anywhere k (at + w.count) (to + w.count) g) (groups-anywhere ks (at + length (group_bytes w k g)) (to + length (group_bytes w k g)) gs)
      ∙ sym (joined-append printed (locate_group w k (to + w.count) g) (locate_groups w ks (to + length (group_bytes w k g)) gs))

pub line-parts : (w : Widths) (at : ℕ) (r : AvlRecord) → line_text w at r ≡ (head_text r.fixed ++ groups_text printed w (kinds w) (at + fixed_size w) r.groups) ++ (10 ∷ [])
unfolding line_bytes line_fields record_line leading elements separated
line-parts w at r =
    let f = r.fixed in
    let t = decimal f.timestamp in
    let x = coordinate f.longitude in
    let y = coordinate f.latitude in
    let v = decimal f.speed in
    let all = joined printed (elements w r) in
    let last : separated (v ∷ texts (printed_all (elements w r))) ≡ v ++ all = behind-first v (elements w r) in
    let front : t ++ (x ++ (y ++ ((44 ∷ v) ++ all))) ≡ (t ++ (x ++ (y ++ (44 ∷ v)))) ++ all = simp append_assoc in
    ap (λ (l : List ℕ). (t ++ (x ++ (y ++ (44 ∷ l)))) ++ (10 ∷ [])) last
    ∙ ap (λ (l : List ℕ). l ++ (10 ∷ [])) (front ∙ ap (λ (l : List ℕ). head_text f ++ l) (groups-anywhere w (kinds w) (fixed_size w) (at + fixed_size w) r.groups))

-- the end of the line as a part of the leading fields: as many bytes
abbrev pub head_end : ℕ → AvlRecord → List ℕ
head_end at r = 10 ∷ head_text r.fixed

pub line-long : (w : Widths) (at : ℕ) (r : AvlRecord) → length (line_text w at r) ≡ length (record_text printed w head_end at r)
line-long w at r =
    let a = head_text r.fixed in
    let b = groups_text printed w (kinds w) (at + fixed_size w) r.groups in
    omega (arith, ap length (line-parts w at r), length-append (a ++ b) (10 ∷ []), length-append a b)

-- ---- a line that is read and stored

module _ (w : Widths) {s : List ℕ} {at to : ℕ} (k : Ready (plain_record w) s at to) where
  whole : RecordRead w s at k.content k.next
  whole = (record-read w s at).if-got _ _ k.reads

  fixed : FixedRead w s at k.content.fixed whole.start
  fixed = (fixed-read w s at).if-got _ _ whole.fixed

  pub head-inside : at + 24 ≤ length s
  head-inside = omega (arith, fixed.inside, fixed.end)

  start_is : whole.start + w.count ≡ at + fixed_size w
  unfolding fixed_size
  start_is = omega (arith, fixed.end)

  groups-read : groups w (kinds w) s (at + fixed_size w) ≡ got k.content.groups k.next
  groups-read = ap (groups w (kinds w) s) (sym start_is) ∙ whole.groups_read

  pub groups-inside : at + fixed_size w ≤ length s
  groups-inside = omega (arith, start_is, whole.inside)

  module _ {before mid : List ℕ} {first : ℕ} (h : Stored (head_text (fixed_at w s at)) before mid to first) where
    head-stored : Stored (head_text k.content.fixed) before mid to first
    head-stored = stored-as (ap head_text (sym fixed.is)) h

    pub groups-ready : Ready (groups w (kinds w)) s (at + fixed_size w) first
    unfolding fixed_size
    groups-ready =
        let f = fixed_at w s at in
        record {
          bytes = k.bytes;
          small = k.small;
          inside = groups-inside;
          behind = omega (arith, k.behind, h.place, leading-most f.timestamp f.longitude f.latitude f.speed);
          content = k.content.groups;
          next = k.next;
          reads = groups-read;
        }

    -- the fixed fields make room for the leading ones and the end of the line
    pub line-pace : {q : Moved} → OnPace s (at + fixed_size w) first q → OnPace s at to (moved q.from (q.to + 1))
    unfolding fixed_size
    line-pace p =
        let f = fixed_at w s at in
        record { inside = p.inside; ahead = omega (arith, p.ahead, h.place, leading-most f.timestamp f.longitude f.latitude f.speed) }

    module _ {last : List ℕ} {q : Moved} (c : Copies (groups w (kinds w)) (groups_text printed w (kinds w)) s (at + fixed_size w) first mid last q) where
      abbrev values : List ℕ
      values = groups_text printed w (kinds w) (at + fixed_size w) k.content.groups

      moved-is : q ≡ moved k.next (first + length values)
      moved-is = c.moves _ _ groups-read

      values-stored : Stored values mid last first q.to
      values-stored = record { place = ap (λ (x : Moved). x.to) moved-is; buffer = c.stores _ _ groups-read }

      pub line-copied : {after : List ℕ} → after ≡ set last q.to 10 → Copies (plain_record w) (line_text w) s at to before after (moved q.from (q.to + 1))
      line-copied e =
          let all = stored-then (stored-then head-stored values-stored) (stored-mark e) in
          let line = stored-as (sym (line-parts w at k.content)) all in
          copies_of k.reads (ap₂ moved (ap (λ (x : Moved). x.from) moved-is) line.place) line.buffer
