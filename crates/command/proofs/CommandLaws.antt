-- The judge of a command accepts exactly what keeps the rules, for every row of the table.
use Rattle.std.specs.Prelude.{Err, Ok}
use Prim.Native.Nat.{ℕ, ◌+◌, ◌-◌, ◌^◌, ◌≤◌, ◌<◌}
use native.Mathlib.Omega.{arith}
use mathlib.Core.Path.{◌≡◌, refl, sym, ap, ◌∙◌, subst}
use mathlib.Core.Bool.{Bool, true, false}
use mathlib.Core.List.{List, [], ◌∷◌}
use lib.ListN.{length}
use lib.Dec.{eqb, leb, lit<, lit≤}
use borrow.Author.Tests.{le-leb, leb-true, eq-eqb, ne_eqb, eqb-true, eqb-false}
use Rattle.wire.specs.Numbers.{Bytes, be, pick}
use Rattle.wire.specs.Sequences.{All}
use Rattle.wire.specs.Envelope.{codec_of, first_count, last_count, inner}
use Rattle.wire.specs.Reading.{got, pure, here, require, number, bytes}
use Rattle.wire.specs.Answers.{refusal}
use Rattle.wire.specs.Imei.{packed, read_packed}
use Rattle.wire.proofs.Placed.{between_join, between_split, between-moved, between-bytes, between-whole, whole-between}
use Rattle.wire.proofs.Exactness.{Meets, meets-then, meets-next, meets-pure, meets-here, meets-require, then-got, here-got, require-got, number-exact, bytes-exact}
use Rattle.wire.proofs.Enclosed.{enclosed-parts, length-enclosed, codec-enclosed, first-enclosed, last-enclosed, inner-enclosed, bytes-inner}
use Rattle.wire.proofs.Accepting.{pick-either, check-accepted, check-passed, on_accepted-accepted, on_accepted-passed, told-accepted, told-got}
use Rattle.wire.proofs.Widths.{length_digits}
use Rattle.wire.proofs.ImeiPacked.{length-packed, packed-exact}
use Rattle.command.specs.Layouts.{types, layouts, find_layout, layout_of, heading, Narrow, member}
use Rattle.command.specs.declared.Layout.{Layout}
use Rattle.command.specs.Commands.{Command, body_bytes, mismatch, command_field, CommandRules, command_body, read_field}
use Rattle.command.specs.Writing.{given_time}

-- ---- the table

-- a choice with this result was one of the two
chosen : {A R : Type 0} (test : Bool) {x y z : A} → (test ≡ true → x ≡ z → R) → (y ≡ z → R) → pick test x y ≡ z → R
chosen true f g e = f refl e
chosen false f g e = g e

-- what holds of every row holds of the row that is found, and its codec is the one looked for
found-row : (P : Layout → Type 0) (codec : ℕ) (ls : List Layout) {l : Layout} → All P ls → find_layout codec ls ≡ Ok l → (l.codec ≡ codec) × P l
unfolding find_layout
found-row P codec [] h e = absurd (let z : ◌≡◌ {A = ℕ} 0 1 = cc in omega arith)
found-row P codec (m ∷ ls) {l} h e =
    chosen (eqb codec m.codec) (λ t f. let same : m ≡ l = cc in subst (λ (x : Layout). (x.codec ≡ codec) × P x) same (sym (eqb-true _ _ t), h.0))
    (found-row P codec ls h.1) e

member-all : (P : ℕ → Type 0) (x : ℕ) (l : List ℕ) → All P l → member x l ≡ true → P x
member-all P x [] h e = absurd (let z : ◌≡◌ {A = ℕ} 0 1 = cc in omega arith)
member-all P x (y ∷ l) h e = chosen (eqb x y) (λ t f. subst P (sym (eqb-true x y t)) h.0) (member-all P x l h.1) e

rows_fit : All (λ l. l.codec < 256) layouts
unfolding layouts
rows_fit = search (lit<, tt)

rows-narrow : All Narrow layouts
unfolding layouts
rows-narrow = search (lit≤, tt)

-- a given time fits in every row
rows-timed : {time : ℕ} → time < 256 ^ 4 → All (λ l. given_time l time < 256 ^ l.time) layouts
unfolding layouts
rows-timed h = (lit< tt, (h, (lit< tt, tt)))

pub type-fits : (l : Layout) (type : ℕ) → member type (types l) ≡ true → type < 256 ^ 1
unfolding types
type-fits l type e =
    member-all (λ t. t < 256 ^ 1) type (types l)
    (pick-either (λ ts. All (λ t. t < 256 ^ 1) (0x05 ∷ 0x06 ∷ ts)) l.mismatch (0x11 ∷ []) [] (omega arith) (omega arith)) e

-- the rows by tests of the codec
abbrev RowOf : ℕ → Type 0
RowOf n = layout_of n ≡ Ok (record { codec = n; mismatch = eqb n 0x0E; imei = pick (eqb n 0x0E) 8 0; time = pick (eqb n 0x0D) 4 0 })

pub row_within : (codec : ℕ) → 0x0C ≤ codec → codec ≤ 0x0E → RowOf codec
unfolding layouts find_layout layout_of
row_within codec low high = first (eqb codec 0x0C) refl
  where
    second : (b : Bool) → eqb codec 0x0D ≡ b → (codec ≡ 0x0C → ⊥) → RowOf codec
    second true e other = subst RowOf (sym (eqb-true codec 0x0D e)) refl
    second false e other = let last : 0x0E ≡ codec = omega (arith, low, high, other, eqb-false codec 0x0D e) in subst RowOf last refl

    first : (b : Bool) → eqb codec 0x0C ≡ b → RowOf codec
    first true e = subst RowOf (sym (eqb-true codec 0x0C e)) refl
    first false e = second (eqb codec 0x0D) refl (eqb-false codec 0x0C e)

pub row-outside : (codec : ℕ) → (0x0C ≤ codec → codec ≤ 0x0E → ⊥) → layout_of codec ≡ Err (refusal 6)
unfolding layouts find_layout layout_of
row-outside codec h =
    let other : (n : ℕ) → 0x0C ≤ n → n ≤ 0x0E → codec ≡ n → ⊥ = λ n low high e. h (omega (arith, low, e)) (omega (arith, high, e)) in
    simp (ne_eqb codec 0x0C (other 0x0C (lit≤ tt) (lit≤ tt)), ne_eqb codec 0x0D (other 0x0D (lit≤ tt) (lit≤ tt)), ne_eqb codec 0x0E (other 0x0E (lit≤ tt) (lit≤ tt)))

module _ (codec : ℕ) {l : Layout} (row : layout_of codec ≡ Ok l) where
  pub layout-codec : l.codec ≡ codec
  unfolding layout_of
  layout-codec = (found-row (λ l. l.codec < 256) codec layouts rows_fit row).0

  codec-fits : codec < 256
  unfolding layout_of
  codec-fits = subst (λ (x : ℕ). x < 256) layout-codec (found-row (λ l. l.codec < 256) codec layouts rows_fit row).1

  pub layout-narrow : Narrow l
  unfolding layout_of
  layout-narrow = (found-row Narrow codec layouts rows-narrow row).1

  pub time-fits : {time : ℕ} → time < 256 ^ 4 → given_time l time < 256 ^ l.time
  unfolding layout_of
  time-fits {time} h = (found-row (λ l. given_time l time < 256 ^ l.time) codec layouts (rows-timed h) row).1

  -- a codec has one row
  pub layout-unique : {m : Layout} → layout_of codec ≡ Ok m → l ≡ m
  layout-unique other = cc

-- ---- the body

-- what stands before the text has as many bytes as the row says
pub length-heading : (l : Layout) (imei time : ℕ) → length (packed l.imei imei) + length (be l.time time) ≡ heading l
length-heading l imei time = omega (arith, length-packed l.imei imei, length_digits 256 l.time time)

empty : (text : List ℕ) → length text ≡ 0 → text ≡ []
empty [] e = refl
empty (b ∷ text) e = absurd (omega arith)

pub mismatch-sound : (type : ℕ) (text : List ℕ) → mismatch type text ≡ true → type ≡ 0x11 → text ≡ []
mismatch-sound type text e t = empty text (eqb-true (length text) 0 (simp (eq-eqb type 0x11 t) at e))

pub mismatch-complete : (type : ℕ) (text : List ℕ) → (type ≡ 0x11 → text ≡ []) → mismatch type text ≡ true
mismatch-complete type text h = go (eqb type 0x11) refl
  where
    go : (b : Bool) → eqb type 0x11 ≡ b → pick b (eqb (length text) 0) true ≡ true
    go true e = ap (λ (t : List ℕ). eqb (length t) 0) (h (eqb-true type 0x11 e))
    go false e = refl

pub body-sound : (l : Layout) (s : List ℕ) → layout_of l.codec ≡ Ok l → Bytes s
    → Meets (command_body l (length s) s 0) (λ c next. (c.codec ≡ l.codec) × CommandRules l c × (s ≡ body_bytes l c))
unfolding command_body
body-sound l s row h =
    meets-then here _ s 0 (meets-here s 0) (λ type_at n₀ k₀.
    meets-then (number 1) _ s n₀ ((number-exact 1).sound s n₀ h (omega (arith, k₀.1))) (λ type n₁ k₁.
    meets-next (require (member type (types l)) 13 type_at) _ s n₁ (meets-require _ _ _ s n₁) (λ u₂ n₂ k₂.
    meets-then here _ s n₂ (meets-here s n₂) (λ size_at n₃ k₃.
    meets-then (number 4) _ s n₃ ((number-exact 4).sound s n₃ h (omega (arith, k₁.0.inside, k₂.1, k₃.1))) (λ size n₄ k₄.
    meets-then here _ s n₄ (meets-here s n₄) (λ start n₅ k₅.
    meets-next (require (eqb (start + size) (length s)) 14 size_at) _ s n₅ (meets-require _ _ _ s n₅) (λ u₆ n₆ k₆.
    meets-next (require (leb (heading l) size) 14 size_at) _ s n₆ (meets-require _ _ _ s n₆) (λ u₇ n₇ k₇.
    meets-then (read_packed l.imei) _ s n₇ ((packed-exact l.imei).sound s n₇ h (omega (arith, k₄.0.inside, k₅.1, k₆.1, k₇.1))) (λ imei n₈ k₈.
    meets-then (number l.time) _ s n₈ ((number-exact l.time).sound s n₈ h k₈.0.inside) (λ time n₉ k₉.
    meets-then here _ s n₉ (meets-here s n₉) (λ text_at n₁₀ k₁₀.
    meets-then (bytes (size - heading l)) _ s n₁₀ ((bytes-exact (size - heading l)).sound s n₁₀ h (omega (arith, k₉.0.inside, k₁₀.1))) (λ text n₁₁ k₁₁.
    meets-next (require (mismatch type text) 14 text_at) _ s n₁₁ (meets-require _ _ _ s n₁₁) (λ u₁₂ n₁₂ k₁₂.
    let counted : size ≡ heading l + length text = omega (arith, leb-true (heading l) size k₇.0, k₁₁.1.0) in
    let end : n₁₁ ≡ length s =
    omega (arith, eqb-true (start + size) (length s) k₆.0, k₅, k₆.1, k₇.1, k₁₀.1, k₈.0.size, k₉.0.size, k₁₁.0.size, length-heading l imei time) in
    meets-pure _ s n₁₂ (
      refl,
      record {
        layout = row;
        type_allowed = k₂.0;
        imei_range = k₈.1;
        time_range = k₉.1;
        text_bytes = k₁₁.1.1;
        mismatch_empty = mismatch-sound type text k₁₂.0;
      },
      whole-between
          (between_join (between-moved k₀.1 refl k₁.0)
          (between_join (between-moved (k₃.1 ∙ k₂.1) refl (between-bytes (ap (be 4) counted) k₄.0))
          (between_join (between-moved (k₇.1 ∙ k₆.1 ∙ k₅.1) refl k₈.0)
          (between_join k₉.0 (between-moved k₁₀.1 end k₁₁.0))))),
    ))))))))))))))

pub body-complete : (l : Layout) (c : Command) → CommandRules l c → length (body_bytes l c) < 256 ^ 4
    → command_body l (length (body_bytes l c)) (body_bytes l c) 0 ≡ got c (length (body_bytes l c))
unfolding command_body pure
body-complete l c h fits =
    let s = body_bytes l c in
    let n = length s in
    let w = heading l in
    let size = w + length c.text in
    let f₁ = between_split (be 1 c.type) (between-whole s) in
    let f₂ = between_split (be 4 size) f₁.1 in
    let f₃ = between_split (packed l.imei c.imei) f₂.1 in
    let f₄ = between_split (be l.time c.time) f₃.1 in
    let start = 0 + length (be 1 c.type) + length (be 4 size) in
    let filled : start + size ≡ n = omega (arith, f₄.1.size, length-heading l c.imei c.time) in
    here-got _ s 0
    ∙ then-got (number 1) _ s 0 ((number-exact 1).complete s 0 _ _ (type-fits l c.type h.type_allowed) f₁.0)
    ∙ require-got (member c.type (types l)) 13 0 _ s _ h.type_allowed
    ∙ here-got _ s _
    ∙ then-got (number 4) _ s _ ((number-exact 4).complete s _ size _ (omega arith) f₂.0)
    ∙ here-got _ s _
    ∙ require-got (eqb (start + size) n) 14 _ _ s _ (eq-eqb (start + size) n filled)
    ∙ require-got (leb w size) 14 _ _ s _ (le-leb w size (omega arith))
    ∙ then-got (read_packed l.imei) _ s _ ((packed-exact l.imei).complete s _ c.imei _ h.imei_range f₃.0)
    ∙ then-got (number l.time) _ s _ ((number-exact l.time).complete s _ c.time _ h.time_range f₄.0)
    ∙ here-got _ s _
    ∙ then-got (bytes (size - w)) _ s _ ((bytes-exact (size - w)).complete s _ c.text n (omega arith, h.text_bytes) f₄.1)
    ∙ require-got (mismatch c.type c.text) 14 _ _ s n (mismatch-complete c.type c.text h.mismatch_empty)
    ∙ ap (λ (x : ℕ). got (record { codec = x; type = c.type; imei = c.imei; time = c.time; text = c.text }) n) (layout-codec c.codec h.layout)

-- ---- the data field

pub field-sound : (d : List ℕ) (c : Command) → Bytes d → 3 ≤ length d → read_field d ≡ Ok c → (l : Layout) × (CommandRules l c × (d ≡ command_field l c))
unfolding read_field command_field
field-sound d c h long e =
    let found = on_accepted-accepted (layout_of (codec_of d)) _ e in
    let l = found.0 in
    let first = check-accepted (eqb (first_count d) 1) 7 _ _ found.2 in
    let last = check-accepted (eqb (last_count d) 1) 7 _ _ first.1 in
    let walk = told-accepted _ _ last.1 in
    let same : l.codec ≡ codec_of d = layout-codec (codec_of d) found.1 in
    let body = (body-sound l (inner d) (ap layout_of same ∙ found.1) (bytes-inner d h)).if-got c walk.0 walk.1 in
    let one : first_count d ≡ 1 = eqb-true _ _ first.0 in
    let again : last_count d ≡ 1 = eqb-true _ _ last.0 in
    (l, (body.1, enclosed-parts d h long (one ∙ sym again) ∙ (cc)))

pub field-complete : (l : Layout) (c : Command) → CommandRules l c → length (command_field l c) < 256 ^ 4 → read_field (command_field l c) ≡ Ok c
unfolding read_field command_field
field-complete l c h fits =
    let b = body_bytes l c in
    let k = codec-fits c.codec h.layout in
    let q : 1 < 256 = lit< tt in
    simp (codec-enclosed c.codec 1 b k q, first-enclosed c.codec 1 b k q, last-enclosed c.codec 1 b k q, inner-enclosed c.codec 1 b k q)
    (on_accepted-passed _ _ h.layout
    ∙ check-passed _ 7 _ _ refl
    ∙ check-passed _ 7 _ _ refl
    ∙ told-got _ _ (body-complete l c h (omega (arith, length-enclosed c.codec 1 b))))
