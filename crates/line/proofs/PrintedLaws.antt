-- Elements are read exactly where they are written.
use Rattle.std.specs.Prelude.{Ok}
use Prim.Native.Nat.{ℕ, ◌-◌, ◌^◌, ◌≤◌, ◌<◌}
use native.Mathlib.Omega.{arith}
use mathlib.Core.Path.{◌≡◌, refl, ap, ap₂, ◌∙◌, subst}
use mathlib.Core.Bool.{Bool, false, not}
use mathlib.Core.List.{List, [], ◌∷◌, ◌++◌}
use lib.ListN.{length}
use lib.Dec.{eqb, lit<}
use borrow.Author.Tests.{eqb-true, ne_eqb, not-true}
use Rattle.wire.specs.Numbers.{Bytes}
use Rattle.wire.specs.Sequences.{All}
use Rattle.wire.specs.Answers.{on_accepted, check_at}
use Rattle.wire.proofs.Widths.{all_append}
use Rattle.wire.proofs.Accepting.{check-accepted, on_accepted-accepted, on_accepted-passed}
use Rattle.text.specs.Decimal.{decimal}
use Rattle.line.specs.Pieces.{before, behind}
use Rattle.line.specs.Lines.{Printed, number, tag, PrintedRules, quoted, printed_text}
use Rattle.line.specs.LineReader.{read_decimal, none, read_tag, read_value, read_printed}
use Rattle.line.proofs.Cases.{by-test}
use Rattle.line.proofs.PieceLaws.{Free, InField, before-free, behind-free, split-some}
use Rattle.line.proofs.Inverses.{Inverse}
use Rattle.line.proofs.DecimalLaws.{IsDigit, decimal-digits, decimal-field, decimal-free, decimal-some, decimal-inverse}
use Rattle.line.proofs.TagLaws.{tag_text, tag-undo, tag-exact, quoted-bytes}

-- ---- what was written is read

front-undo : (tags : Bool) (id : ℕ) (value : List ℕ) → id < 2 ^ 16 → read_printed tags (decimal id ++ (61 ∷ value)) ≡ read_value tags id value
unfolding read_printed
front-undo tags id value h =
    let free : Free 61 (decimal id) = decimal-free 61 id (λ k. omega (arith, k.1)) in
    simp (before-free 61 (decimal id) value free, behind-free 61 (decimal id) value free)
    (on_accepted-passed (read_decimal (2 ^ 16 - 1) (decimal id)) _ ((decimal-inverse (2 ^ 16 - 1) (lit< tt)).undo id (omega arith)))

-- no quote begins a number
number-front : (id : ℕ) (p : List ℕ) → 1 ≤ length p → All IsDigit p → read_value false id p ≡ on_accepted (read_decimal (2 ^ 64 - 1) p) (λ n. Ok (number id n))
unfolding read_value check_at
number-front id [] h k = absurd (omega arith)
number-front id (c ∷ p) h k = simp (ne_eqb c 34 (λ e. omega (arith, k.0.0)))

number-undo : (id n : ℕ) → PrintedRules (number id n) → read_printed false (printed_text (number id n)) ≡ Ok (number id n)
unfolding printed_text
number-undo id n h =
    front-undo false id (decimal n) h.0
    ∙ number-front id (decimal n) (decimal-some n) (decimal-digits n)
    ∙ on_accepted-passed (read_decimal (2 ^ 64 - 1) (decimal n)) _ ((decimal-inverse (2 ^ 64 - 1) (lit< tt)).undo n (omega (arith, h.1)))

pub tagged-undo : (tags : Bool) (id : ℕ) (b : List ℕ) → PrintedRules (tag id b) → read_printed tags (printed_text (tag id b)) ≡ Ok (tag id b)
unfolding printed_text quoted read_value
tagged-undo tags id b h =
    front-undo tags id (quoted b) h.0
    ∙ on_accepted-passed (read_tag none (tag_text b)) _ (tag-undo b h.1)

-- ---- and nothing else is

value-cases : (P : Printed → Type 0) (tags : Bool) (id : ℕ) (s : List ℕ) (e : Printed) → read_value tags id s ≡ Ok e
    → ((n : ℕ) → tags ≡ false → n < 2 ^ 64 → s ≡ decimal n → P (number id n))
    → ((b : List ℕ) → Bytes b → s ≡ quoted b → P (tag id b))
    → P e
unfolding read_value quoted
value-cases P tags id [] e h f g = absurd (let z : ◌≡◌ {A = ℕ} 0 1 = cc in omega arith)
value-cases P tags id (c ∷ s) e h f g =
    by-test (eqb c 34)
    (λ t. let i = on_accepted-accepted (read_tag none s) _ (simp t at h) in
    let k = tag-exact s i.0 i.1 in
    let is : tag id i.0 ≡ e = cc i.2 in
    subst P is (g i.0 k.0 (ap₂ (λ (x : ℕ) (l : List ℕ). x ∷ l) (eqb-true c 34 t) k.1)))
    (λ t. let i = check-accepted (not tags) 20 _ _ (simp t at h) in
    let j = on_accepted-accepted (read_decimal (2 ^ 64 - 1) (c ∷ s)) _ i.1 in
    let k = (decimal-inverse (2 ^ 64 - 1) (lit< tt)).exact (c ∷ s) j.0 j.1 in
    let is : number id j.0 ≡ e = cc j.2 in
    subst P is (f j.0 (not-true tags i.0) (omega (arith, k.0)) k.1))

pub printed-cases : (P : Printed → Type 0) (tags : Bool) (s : List ℕ) (e : Printed) → read_printed tags s ≡ Ok e
    → ((id n : ℕ) → tags ≡ false → PrintedRules (number id n) → s ≡ printed_text (number id n) → P (number id n))
    → ((id : ℕ) (b : List ℕ) → PrintedRules (tag id b) → s ≡ printed_text (tag id b) → P (tag id b))
    → P e
unfolding read_printed printed_text quoted
printed-cases P tags s e h f g =
    let i = on_accepted-accepted (read_decimal (2 ^ 16 - 1) (before 61 s)) _ h in
    let id : ℕ = i.0 in
    let k = (decimal-inverse (2 ^ 16 - 1) (lit< tt)).exact (before 61 s) id i.1 in
    let small : id < 2 ^ 16 = omega (arith, k.0) in
    let whole : (value : List ℕ) → 1 ≤ length value → behind 61 s ≡ value → s ≡ decimal id ++ (61 ∷ value) =
    λ value some e. split-some 61 s (omega (arith, ap length e)) ∙ ap₂ (λ (p q : List ℕ). p ++ (61 ∷ q)) k.1 e
    in
    value-cases P tags id (behind 61 s) e i.2
    (λ n t fits is. f id n t (small, fits) (whole (decimal n) (decimal-some n) is))
    (λ b bytes is. g id b (small, bytes) (whole (quoted b) (omega arith) is))

-- ---- the parsers

printed-undo : (e : Printed) → PrintedRules e → read_printed false (printed_text e) ≡ Ok e
printed-undo (number id n) h = number-undo id n h
printed-undo (tag id b) h = tagged-undo false id b h

pub printed-exact : (tags : Bool) (s : List ℕ) (e : Printed) → read_printed tags s ≡ Ok e → PrintedRules e × (s ≡ printed_text e)
printed-exact tags s e h =
    printed-cases (λ e. PrintedRules e × (s ≡ printed_text e)) tags s e h (λ id n t k is. (k, is)) (λ id b k is. (k, is))

pub printed-inverse : Inverse (read_printed false) printed_text PrintedRules
printed-inverse = record { undo = printed-undo; exact = printed-exact false }

-- ---- their bytes

value-field : (id : ℕ) (value : List ℕ) → All InField value → All InField (decimal id ++ (61 ∷ value))
value-field id value h = all_append InField (decimal id) (61 ∷ value) (decimal-field id) ((omega arith, omega arith, refl), h)

-- commas and LF are none of them
pub printed-field : (e : Printed) → PrintedRules e → All InField (printed_text e)
unfolding printed_text
printed-field (number id n) h = value-field id (decimal n) (decimal-field n)
printed-field (tag id b) h = value-field id (quoted b) (quoted-bytes b h.1)
