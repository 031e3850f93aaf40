-- Tags are read exactly where they are written, and have only bytes that may stand in a field.
use Rattle.std.specs.Prelude.{Ok}
use Prim.Native.Nat.{ℕ, ◌+◌, ◌-◌, ◌*◌, ◌/◌, ◌%◌, ◌≤◌, ◌<◌}
use native.Mathlib.Nat.{div-add-mod'}
use native.Mathlib.Omega.{arith}
use mathlib.Core.Path.{◌≡◌, refl, sym, ap, ap₂, ◌∙◌, subst}
use mathlib.Core.Bool.{Bool, true, false, not}
use mathlib.Core.List.{List, [], ◌∷◌, ◌++◌}
use lib.ListN.{length}
use lib.Dec.{eqb, leb, ltb}
use lib.Arith.{digits_div, digits_mod}
use borrow.Author.Tests.{ltb-true, ltb-false, lt-ltb, le-ltb, leb-true, le-leb, lt-leb, eqb-true, not-true, ne_eqb}
use Rattle.wire.specs.Numbers.{Bytes, pick}
use Rattle.wire.specs.Sequences.{joined, All}
use Rattle.wire.specs.Answers.{on_accepted, check_at}
use Rattle.wire.proofs.Widths.{all_append}
use Rattle.wire.proofs.Accepting.{both_true, check-accepted, check-passed, on_accepted-accepted, on_accepted-passed}
use Rattle.text.specs.Hex.{among, glyph_of}
use Rattle.line.specs.Lines.{is_plain, escaped, quoted}
use Rattle.line.specs.LineReader.{read_hex, Escape, none, slash, high, read_tag}
use Rattle.line.proofs.Cases.{by-test}
use Rattle.line.proofs.PieceLaws.{InField}

-- ---- hex digits

pub hex-glyph : (d : ℕ) → d < 16 → read_hex (glyph_of d) ≡ Ok d
unfolding read_hex glyph_of check_at
hex-glyph d h =
    by-test (ltb d 10)
    (λ e. let small : d < 10 = ltb-true d 10 e in
    let same : 48 + d - 48 ≡ d = omega arith in
    let low : 48 ≤ 48 + d = omega arith in
    let most : 48 + d ≤ 57 = omega arith in
    simp (e, le-leb 48 (48 + d) low, le-leb (48 + d) 57 most, same))
    (λ e. let large : 10 ≤ d = ltb-false d 10 e in
    let same : 55 + d - 55 ≡ d = omega arith in
    let past : 57 < 55 + d = omega arith in
    let low : 48 ≤ 55 + d = omega arith in
    let least : 65 ≤ 55 + d = omega arith in
    let most : 55 + d ≤ 70 = omega arith in
    simp (e, le-leb 48 (55 + d) low, lt-leb (55 + d) 57 past, le-leb 65 (55 + d) least, le-leb (55 + d) 70 most, same))

pub glyph-hex : (c d : ℕ) → read_hex c ≡ Ok d → (d < 16) × (c ≡ glyph_of d)
unfolding read_hex glyph_of
glyph-hex c d h =
    by-test (among 48 57 c)
    (λ e. let range = both_true (leb 48 c) (leb c 57) e in
    let low : 48 ≤ c = leb-true 48 c range.0 in
    let most : c ≤ 57 = leb-true c 57 range.1 in
    let is : c - 48 ≡ d = cc (simp e at h) in
    let small : d < 10 = omega arith in
    (omega arith, simp (lt-ltb d 10 small) (omega arith)))
    (λ e. let k = check-accepted (among 65 70 c) 20 _ _ (simp e at h) in
    let range = both_true (leb 65 c) (leb c 70) k.0 in
    let low : 65 ≤ c = leb-true 65 c range.0 in
    let most : c ≤ 70 = leb-true c 70 range.1 in
    let is : c - 55 ≡ d = cc k.1 in
    let large : 10 ≤ d = omega arith in
    (omega arith, simp (le-ltb d 10 large) (omega arith)))

-- ---- plain bytes

neither : (a b : Bool) → pick a false b ≡ true → (a ≡ false) × (b ≡ true)
neither true b e = absurd (let z : ◌≡◌ {A = ℕ} 0 1 = cc in omega arith)
neither false b e = (refl, e)

pub record Plain (b : ℕ) : Type 0 where
  pub no_quote : eqb b 34 ≡ false
  pub no_comma : eqb b 44 ≡ false
  pub no_slash : eqb b 92 ≡ false
  pub least : 32 ≤ b
  pub most : b ≤ 126

pub plain-is : (b : ℕ) → is_plain b ≡ true → Plain b
unfolding is_plain
plain-is b e =
    let x = neither (eqb b 34) _ e in
    let y = neither (eqb b 44) _ x.1 in
    let z = neither (eqb b 92) _ y.1 in
    let range = both_true (leb 32 b) (leb b 126) z.1 in
    record { no_quote = x.0; no_comma = y.0; no_slash = z.0; least = leb-true 32 b range.0; most = leb-true b 126 range.1 }

-- ---- a tag behind its first quote

abbrev pub tag_text : List ℕ → List ℕ
tag_text b = joined escaped b ++ (34 ∷ [])

text-plain : (x : ℕ) (b : List ℕ) → is_plain x ≡ true → tag_text (x ∷ b) ≡ x ∷ tag_text b
unfolding escaped
text-plain x b e = simp e

text-escaped : (x : ℕ) (b : List ℕ) → is_plain x ≡ false → tag_text (x ∷ b) ≡ 92 ∷ glyph_of (x / 16) ∷ glyph_of (x % 16) ∷ tag_text b
unfolding escaped
text-escaped x b e = simp e

read_plain : (x : ℕ) (s : List ℕ) → is_plain x ≡ true → read_tag none (x ∷ s) ≡ on_accepted (read_tag none s) (λ b. Ok (x ∷ b))
unfolding read_tag
read_plain x s e = let p = plain-is x e in simp (p.no_quote, p.no_slash) (check-passed (is_plain x) 20 _ _ e)

read-escaped : (x : ℕ) (s : List ℕ) → x < 256 → is_plain x ≡ false
    → read_tag none (92 ∷ glyph_of (x / 16) ∷ glyph_of (x % 16) ∷ s) ≡ on_accepted (read_tag none s) (λ b. Ok (x ∷ b))
unfolding read_tag
read-escaped x s h e =
    let whole : x / 16 * 16 + x % 16 ≡ x = div-add-mod' x 16 in
    on_accepted-passed (read_hex (glyph_of (x / 16))) _ (hex-glyph (x / 16) (omega arith))
    ∙ on_accepted-passed (read_hex (glyph_of (x % 16))) _ (hex-glyph (x % 16) (omega arith))
    ∙ simp (whole, e) (check-passed true 20 _ _ refl)

pub tag-undo : (b : List ℕ) → Bytes b → read_tag none (tag_text b) ≡ Ok b
unfolding read_tag check_at
tag-undo [] h = refl
tag-undo (x ∷ b) h =
    by-test (is_plain x)
    (λ e. ap (read_tag none) (text-plain x b e) ∙ read_plain x (tag_text b) e)
    (λ e. ap (read_tag none) (text-escaped x b e) ∙ read-escaped x (tag_text b) h.0 e)
    ∙ on_accepted-passed (read_tag none (tag_text b)) _ (tag-undo b h.1)

-- what came before the rest of a tag
abbrev held : Escape → List ℕ
held none = []
held slash = 92 ∷ []
held (high h) = 92 ∷ glyph_of h ∷ []

abbrev Half : Escape → Type 0
Half none = Unit {0}
Half slash = Unit {0}
Half (high h) = h < 16

abbrev Is : List ℕ → List ℕ → Type 0
Is s b = Bytes b × (s ≡ tag_text b)

nothing : (s : List ℕ) → length s ≡ 0 → s ≡ []
nothing [] h = refl
nothing (c ∷ s) h = absurd (omega arith)

tag-from : (e : Escape) (s b : List ℕ) → Half e → read_tag e s ≡ Ok b → Is (held e ++ s) b
unfolding read_tag
tag-from e [] b h k = absurd (let z : ◌≡◌ {A = ℕ} 0 1 = cc in omega arith)
tag-from none (c ∷ s) b h k =
    by-test (eqb c 34)
    (λ e. let i = check-accepted (eqb (length s) 0) 20 _ _ (simp e at k) in
    let whole : 34 ∷ [] ≡ c ∷ s = ap₂ (λ (x : ℕ) (l : List ℕ). x ∷ l) (sym (eqb-true c 34 e)) (sym (nothing s (eqb-true (length s) 0 i.0))) in
    let is : [] ≡ b = cc i.1 in
    subst (Is (c ∷ s)) is (tt, sym whole))
    (λ e. by-test (eqb c 92)
    (λ f. subst (λ (x : ℕ). Is (x ∷ s) b) (sym (eqb-true c 92 f)) (tag-from slash s b tt (simp (e, f) at k)))
    (λ f. let i = check-accepted (is_plain c) 20 _ _ (simp (e, f) at k) in
    let j = on_accepted-accepted (read_tag none s) _ i.1 in
    let more = tag-from none s j.0 tt j.1 in
    let is : c ∷ j.0 ≡ b = cc j.2 in
    subst (Is (c ∷ s)) is
    ((omega (arith, (plain-is c i.0).most), more.0), ap (λ (l : List ℕ). c ∷ l) more.1 ∙ sym (text-plain c j.0 i.0))))
tag-from slash (c ∷ s) b h k =
    let i = on_accepted-accepted (read_hex c) _ k in
    let g = glyph-hex c i.0 i.1 in
    subst (λ (x : ℕ). Is (92 ∷ x ∷ s) b) (sym g.1) (tag-from (high i.0) s b g.0 i.2)
tag-from (high d) (c ∷ s) b h k =
    let i = on_accepted-accepted (read_hex c) _ k in
    let l : ℕ = i.0 in
    let g = glyph-hex c l i.1 in
    let j = check-accepted (not (is_plain (d * 16 + l))) 20 _ _ i.2 in
    let other : is_plain (d * 16 + l) ≡ false = not-true _ j.0 in
    let m = on_accepted-accepted (read_tag none s) _ j.1 in
    let more = tag-from none s m.0 tt m.1 in
    let is : (d * 16 + l) ∷ m.0 ≡ b = cc m.2 in
    let up : (d * 16 + l) / 16 ≡ d = digits_div d g.0 in
    let low : (d * 16 + l) % 16 ≡ l = digits_mod d g.0 in
    subst (Is (92 ∷ glyph_of d ∷ c ∷ s)) is
    ((omega (arith, g.0), more.0), sym (text-escaped (d * 16 + l) m.0 other ∙ simp (up, low, ← g.1, ← more.1)))

pub tag-exact : (s b : List ℕ) → read_tag none s ≡ Ok b → Bytes b × (s ≡ tag_text b)
tag-exact s b e = tag-from none s b tt e

-- ---- its bytes

glyph-field : (d : ℕ) → d < 16 → InField (glyph_of d)
unfolding glyph_of
glyph-field d h =
    by-test (ltb d 10)
    (λ e. simp e (let small : d < 10 = ltb-true d 10 e in (omega arith, omega arith, ne_eqb (48 + d) 44 (λ k. omega arith))))
    (λ e. simp e (omega arith, omega arith, ne_eqb (55 + d) 44 (λ k. omega arith)))

escaped-field : (x : ℕ) → x < 256 → All InField (escaped x)
unfolding escaped
escaped-field x h =
    by-test (is_plain x)
    (λ e. let p = plain-is x e in simp e ((p.least, p.most, p.no_comma), tt))
    (λ e. simp e ((omega arith, omega arith, refl), (glyph-field (x / 16) (omega arith), (glyph-field (x % 16) (omega arith), tt))))

joined-field : (b : List ℕ) → Bytes b → All InField (joined escaped b)
joined-field [] h = tt
joined-field (x ∷ b) h = all_append InField (escaped x) (joined escaped b) (escaped-field x h.0) (joined-field b h.1)

pub quoted-bytes : (b : List ℕ) → Bytes b → All InField (quoted b)
unfolding quoted
quoted-bytes b h = ((omega arith, omega arith, refl), all_append InField (joined escaped b) (34 ∷ []) (joined-field b h) ((omega arith, omega arith, refl), tt))
