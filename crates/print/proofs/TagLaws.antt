-- Tags: bytes as they are written, between quotes.
use Prim.Native.Nat.{ℕ, suc, ◌+◌, ◌*◌, ◌/◌, ◌%◌, ◌≤◌, ◌<◌}
use native.Mathlib.Numerals.{add-one}
use native.Mathlib.Omega.{arith}
use mathlib.Core.Path.{◌≡◌, refl, sym, ap, ◌∙◌}
use mathlib.Core.Bool.{true, false}
use mathlib.Core.List.{List, [], ◌∷◌, ◌++◌, append_assoc}
use lib.ListN.{length, length-append, drop, get_or, set, drop_of_length-le}
use lib.Seq.{drop-cons}
use Rattle.wire.specs.Sequences.{joined}
use Rattle.wire.proofs.Accepting.{pick_true, pick-false, pick-either}
use Rattle.text.specs.Hex.{glyph_of}
use Rattle.store.specs.Stores.{Stored}
use Rattle.store.proofs.StoredLaws.{stored-as, stored_on, Left, left_as, left-more, left-done}
use Rattle.line.specs.Lines.{is_plain, escaped, quoted}
use Rattle.print.proofs.DegreeLaws.{stored-mark}

-- ---- a byte

pub escaped-few : (b : ℕ) → length (escaped b) ≤ 3
unfolding escaped
escaped-few b = pick-either (λ (l : List ℕ). length l ≤ 3) (is_plain b) (b ∷ []) (92 ∷ glyph_of (b / 16) ∷ glyph_of (b % 16) ∷ []) (omega arith) (omega arith)

pub plain-stored : {l : List ℕ} {to : ℕ} (b : ℕ) → is_plain b ≡ true → Stored (escaped b) l (set l to b) to (to + 1)
unfolding escaped
plain-stored b e = stored-as (sym (pick_true (is_plain b) (b ∷ []) _ e)) (stored-mark refl)

pub escape-stored : {l : List ℕ} {to : ℕ} (b : ℕ) {x y : ℕ} → is_plain b ≡ false → x ≡ glyph_of (b / 16) → y ≡ glyph_of (b % 16)
    → Stored (escaped b) l (set (set (set l to 92) (to + 1) x) (to + 2) y) to (to + 3)
unfolding escaped
escape-stored {l} {to} b {x} {y} e high low =
    let second : to + 1 ≡ suc to = omega arith in
    let third : to + 2 ≡ suc (suc to) = omega arith in
    stored-as (sym (pick-false (is_plain b) (b ∷ []) _ e)) (record { place = refl; buffer = λ i. set (set (set l to 92) (second i) (high i)) (third i) (low i) })

-- ---- bytes, and the closing quote

abbrev pub rest_of : List ℕ → List ℕ
rest_of src = joined escaped src ++ (34 ∷ [])

escaped-most : (src : List ℕ) → length (joined escaped src) ≤ 3 * length src
escaped-most [] = omega arith
escaped-most (b ∷ src) = omega (arith, length-append (escaped b) (joined escaped src), escaped-few b, escaped-most src)

pub quoted-most : (src : List ℕ) → length (quoted src) ≤ 2 + 3 * length src
unfolding quoted
quoted-most src = omega (arith, length-append (joined escaped src) (34 ∷ []), escaped-most src)

module _ (src : List ℕ) (i : ℕ) {l m : List ℕ} {to next : ℕ} (h : Left (rest_of (drop i src)) (rest_of src) l m to next) where
  pub quoted-near : next ≤ to + 1 + 3 * length src
  quoted-near = omega (arith, h.place, length-append (joined escaped src) (34 ∷ []), escaped-most src)

  pub quoted-on : i < length src → {o : List ℕ} {end : ℕ} → Stored (escaped (get_or src i 0)) m o next end → Left (rest_of (drop (i + 1) src)) (rest_of src) l o to end
  quoted-on more s =
      let first : drop i src ≡ get_or src i 0 ∷ drop (i + 1) src = drop-cons src i 0 more ∙ ap (λ (n : ℕ). get_or src i 0 ∷ drop n src) (sym (add-one i)) in
      let parts : rest_of (drop i src) ≡ escaped (get_or src i 0) ++ rest_of (drop (i + 1) src) =
      ap rest_of first ∙ append_assoc (escaped (get_or src i 0)) (joined escaped (drop (i + 1) src)) (34 ∷ [])
      in
      left-more (left_as parts h) s

  pub quoted-done : length src ≤ i → {o : List ℕ} → o ≡ set m next 34 → Stored (rest_of src) l o to (next + 1)
  quoted-done none e = left-done (left-more (left_as (ap rest_of (drop_of_length-le src {i = i} none)) h) (stored-mark e))

-- behind the opening quote
pub quoted-stored : (src : List ℕ) {l m o : List ℕ} {to next : ℕ} → m ≡ set l to 34 → Stored (rest_of src) m o (to + 1) next → Stored (quoted src) l o to next
unfolding quoted
quoted-stored src e s = stored_on (stored-mark e) s refl
