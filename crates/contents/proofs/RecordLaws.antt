-- A record's words are its own four, then those of its elements.
use Prim.Native.Nat.{ℕ, suc, ◌+◌, ◌-◌, ◌*◌, ◌^◌, ◌≤◌, ◌<◌}
use native.Mathlib.Omega.{arith}
use mathlib.Core.Path.{◌≡◌, refl, sym, ap, ap₂, ◌∙◌}
use mathlib.Core.List.{List, [], ◌∷◌}
use lib.ListN.{length, set, length-append}
use lib.Seq.{sets}
use Rattle.avl.specs.Narrow.{Narrow}
use Rattle.wire.specs.Numbers.{number_at}
use Rattle.wire.specs.Reading.{got}
use Rattle.wire.proofs.Shifts.{number-add}
use Rattle.avl.specs.declared.Widths.{Widths}
use Rattle.avl.specs.Codecs.{kinds}
use Rattle.avl.specs.Records.{Fixed, AvlRecord, element_count, record_bytes, GroupsRules}
use Rattle.avl.specs.RecordReader.{groups, plain_record}
use Rattle.avl.proofs.RecordLaws.{fixed-exact, groups-exact}
use Rattle.avl.proofs.Inversion.{fixed_at, fixed-read, FixedRead, RecordRead, record-read, plain_size}
use Rattle.element.specs.Elements.{Located, fixed_size, locate_groups}
use Rattle.element.proofs.ElementLaws.{length-groups}
use Rattle.element.proofs.ReadLaws.{got_same}
use Rattle.store.proofs.StoredLaws.{stored-before, stored_of}
use Rattle.traverse.specs.declared.Moved.{Moved}
use Rattle.traverse.specs.Texts.{groups_text, record_text}
use Rattle.traverse.specs.Copying.{Ready, Copies, OnPace}
use Rattle.traverse.proofs.CopyLaws.{moved, copies_of}
use Rattle.contents.specs.Words.{quad, record_words}
use Rattle.contents.specs.Listing.{listed_word, head_text}
use Rattle.contents.proofs.SizeLaws.{length-words, record-size}

-- a word that is stored
word-stored : {l m o : List ℕ} (at n : ℕ) {x a : ℕ} → o ≡ set l at x → x ≡ a → l ≡ m → at ≡ n → o ≡ set m n a
word-stored {l} {m} at n {x} {a} e is same place = e ∙ ap (set l at) is ∙ ap₂ (λ (k : List ℕ) (i : ℕ). set k i a) same place

-- four words one behind another
pub four-stored : (l : List ℕ) (to a b c d : ℕ) {o₁ o₂ o₃ o₄ : List ℕ} {x₁ x₂ x₃ x₄ : ℕ} → o₁ ≡ set l to x₁ → x₁ ≡ a → o₂ ≡ set o₁ (to + 1) x₂ → x₂ ≡ b
    → o₃ ≡ set o₂ (to + 2) x₃ → x₃ ≡ c → o₄ ≡ set o₃ (to + 3) x₄ → x₄ ≡ d → o₄ ≡ sets l to (a ∷ b ∷ c ∷ d ∷ [])
four-stored l to a b c d e₁ i₁ e₂ i₂ e₃ i₃ e₄ i₄ =
    let p₁ = word-stored {l = l} to to e₁ i₁ refl refl in
    let p₂ = word-stored (to + 1) (suc to) e₂ i₂ p₁ (omega arith) in
    let p₃ = word-stored (to + 2) (suc (suc to)) e₃ i₃ p₂ (omega arith) in
    word-stored (to + 3) (suc (suc (suc to))) e₄ i₄ p₃ (omega arith)

module _ (w : Widths) {s : List ℕ} {at to : ℕ} (k : Ready (plain_record w) s at to) where
  whole : RecordRead w s at k.content k.next
  whole = (record-read w s at).if-got _ _ k.reads

  fixed : FixedRead w s at k.content.fixed whole.start
  fixed = (fixed-read w s at).if-got _ _ whole.fixed

  pub fixed-inside : at + 24 + w.event + w.generation ≤ length s
  fixed-inside = omega (arith, fixed.inside, fixed.end)

  -- priority and generation type are as small as the judge asks
  pub fixed-range : (number_at s (at + 8) 1 ≤ 2) × (number_at s (at + 24 + w.event) w.generation ≤ 7)
  fixed-range =
      let rules = (((fixed-exact w).sound s at k.bytes k.inside).if-got _ _ whole.fixed).1 in
      (omega (arith, rules.priority_range, ap (λ (f : Fixed). f.priority) fixed.is), omega (arith, rules.generation_range, ap (λ (f : Fixed). f.generation) fixed.is))

  -- coordinates, and what follows them, are read at once
  coordinates-are : number_at s (at + 9) 8 ≡ number_at s (at + 13) 4 + 2 ^ 32 * number_at s (at + 9) 4
  coordinates-are =
      let second : at + 9 + 4 ≡ at + 13 = omega arith in
      omega (arith, number-add s (at + 9) 4 4, ap (λ (n : ℕ). number_at s n 4) second)

  motion-are : number_at s (at + 17) 7
      ≡ number_at s (at + 22) 2 + 2 ^ 16 * number_at s (at + 21) 1 + 2 ^ 24 * number_at s (at + 19) 2 + 2 ^ 40 * number_at s (at + 17) 2
  motion-are =
      let angle : at + 17 + 2 ≡ at + 19 = omega arith in
      let satellites : at + 19 + 2 ≡ at + 21 = omega arith in
      let speed : at + 21 + 1 ≡ at + 22 = omega arith in
      omega (
        arith,
        number-add s (at + 17) 2 5,
        number-add s (at + 19) 2 3,
        number-add s (at + 21) 1 2,
        ap (λ (n : ℕ). number_at s n 5) angle,
        ap (λ (n : ℕ). number_at s n 3) satellites,
        ap (λ (n : ℕ). number_at s n 2) speed,
      )

  -- the four words, as they are made of the bytes
  abbrev last_words : ℕ → ℕ → ℕ → List ℕ
  last_words start size count = quad (number_at s (at + 24) w.event) start size count ∷ []

  pub head-stored : (start size count : ℕ) (before : List ℕ) {after : List ℕ}
      → after
      ≡ sets before to
      (number_at s at 8
      ∷ number_at s (at + 9) 8
      ∷ (number_at s (at + 17) 7 + 2 ^ 56 * number_at s (at + 8) 1 + 2 ^ 60 * number_at s (at + 24 + w.event) w.generation)
      ∷ last_words start size count)
      → (r : AvlRecord) (n : ℕ) → plain_record w s at ≡ got r n → after ≡ sets before to (record_words r.fixed start size count)
  unfolding record_words
  head-stored start size count before e r n i =
      let front : at ≡ at + 0 = omega arith in
      let first = ap (λ (j : ℕ). number_at s j 8) front in
      let third : number_at s (at + 17) 7 + 2 ^ 56 * number_at s (at + 8) 1 + 2 ^ 60 * number_at s (at + 24 + w.event) w.generation
      ≡ number_at s (at + 22) 2 + 2 ^ 16 * number_at s (at + 21) 1 + 2 ^ 24 * number_at s (at + 19) 2 + 2 ^ 40 * number_at s (at + 17) 2 + 2 ^ 56 * number_at s (at + 8) 1
      + 2 ^ 60 * number_at s (at + 24 + w.event) w.generation = omega (arith, motion-are) in
      let same : fixed_at w s at ≡ r.fixed = sym fixed.is ∙ ap (λ (x : AvlRecord). x.fixed) (got_same k.reads i).0 in
      e
      ∙ (λ j. sets before to (first j ∷ coordinates-are j ∷ third j ∷ last_words start size count))
      ∙ ap (λ (f : Fixed). sets before to (record_words f start size count)) same

  -- ---- the elements behind them

  start_is : whole.start + w.count ≡ at + fixed_size w
  unfolding fixed_size
  start_is = omega (arith, fixed.end)

  groups-read : groups w (kinds w) s (at + fixed_size w) ≡ got k.content.groups k.next
  groups-read = ap (groups w (kinds w) s) (sym start_is) ∙ whole.groups_read

  pub groups-inside : at + fixed_size w ≤ length s
  groups-inside = omega (arith, start_is, whole.inside)

  pub groups-ready : Ready (groups w (kinds w)) s (at + fixed_size w) (to + 4)
  unfolding fixed_size
  groups-ready =
      record {
        bytes = k.bytes;
        small = k.small;
        inside = groups-inside;
        behind = omega (arith, k.behind);
        content = k.content.groups;
        next = k.next;
        reads = groups-read;
      }

  -- the fixed fields make room for the four words
  pub record-pace : {q : Moved} → OnPace s (at + fixed_size w) (to + 4) q → OnPace s at to q
  unfolding fixed_size
  record-pace p = record { inside = p.inside; ahead = omega (arith, p.ahead) }

  keep : GroupsRules w (kinds w) k.content.groups
  keep = (((groups-exact w (kinds w)).sound s (at + fixed_size w) k.bytes groups-inside).if-got _ _ groups-read).1

  size_is : (k.next ≤ length s) × (k.next ≡ at + length (record_bytes w k.content))
  size_is = plain_size w s at k.bytes k.inside k.reads

  module _ (base : ℕ) {before mid : List ℕ} {q : Moved} (c : Copies (groups w (kinds w)) (groups_text (listed_word base) w (kinds w)) s (at + fixed_size w) (to + 4) before mid q) where
    abbrev values : List ℕ
    values = groups_text (listed_word base) w (kinds w) (at + fixed_size w) k.content.groups

    moved-is : q ≡ moved k.next (to + 4 + length values)
    moved-is = c.moves _ _ groups-read

    count-is : length values ≡ element_count k.content.groups
    count-is = length-words (λ (e : Located). quad e.id e.kind (base + e.place) (length e.value)) (locate_groups w (kinds w) (at + fixed_size w) k.content.groups) ∙ length-groups w (kinds w) (at + fixed_size w) k.content.groups keep

    -- how many bytes and elements the record has
    pub counted-bytes : (at ≤ q.from) × (q.from - at ≡ length (record_bytes w k.content)) × (q.from ≤ length s)
    counted-bytes =
        let e = ap (λ (x : Moved). x.from) moved-is in
        (omega (arith, e, size_is.1), omega (arith, e, size_is.1), omega (arith, e, size_is.0))

    pub counted-elements : (to + 4 ≤ q.to) × (q.to - (to + 4) ≡ element_count k.content.groups)
    counted-elements =
        let e = ap (λ (x : Moved). x.to) moved-is in
        (omega (arith, e), omega (arith, e, count-is))

    pub few : Narrow w → base + length s < 2 ^ 16 → (q.from - at < 2 ^ 16) × (q.to - (to + 4) < 2 ^ 16)
    few narrow h =
        let size = record-size w narrow.named k.content keep in
        (omega (arith, h, counted-bytes.2), omega (arith, h, size, counted-bytes.1, counted-bytes.2, counted-elements.1))

    -- the four words are stored in front of those of the elements
    pub record-copied : {after : List ℕ} → ((r : AvlRecord) (n : ℕ) → plain_record w s at ≡ got r n → after ≡ sets mid to (record_words r.fixed (base + at) (q.from - at) (q.to - (to + 4))))
        → Copies (plain_record w) (record_text (listed_word base) w (head_text base w)) s at to before after q
    unfolding record_words
    record-copied {after} h =
        let head = head_text base w at k.content in
        let front : after ≡ sets mid to head = h _ _ k.reads ∙ ap₂ (λ (i j : ℕ). sets mid to (record_words k.content.fixed (base + at) i j)) counted-bytes.1 counted-elements.1 in
        let stored = stored-before (stored_of head front) (stored_of values (c.stores _ _ groups-read)) in
        copies_of k.reads (moved-is ∙ ap (moved k.next) (omega (arith, length-append head values))) stored.buffer
