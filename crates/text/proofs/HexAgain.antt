-- Bytes written as hex text are hex text, and give the same bytes again.
use Rattle.std.specs.Prelude.{Some}
use Prim.Native.Nat.{ℕ, ◌+◌, ◌-◌, ◌*◌, ◌/◌, ◌%◌, ◌≤◌, ◌<◌}
use native.Mathlib.Nat.{div-add-mod'}
use native.Mathlib.Omega.{arith}
use mathlib.Core.Path.{◌≡◌, refl, ap, ap₂}
use mathlib.Core.Bool.{Bool, true, false}
use mathlib.Core.List.{List, [], ◌∷◌}
use lib.ListN.{length}
use lib.Dec.{ltb}
use borrow.Author.Tests.{le-leb, lt-leb, ltb-true, ltb-false}
use Rattle.wire.specs.Numbers.{Bytes, pick}
use Rattle.text.specs.declared.Mark.TheVariants.{Digit}
use Rattle.text.specs.Hex.{mark_of, is_hex, digits, kind_of, paired, hex_bytes, glyph_of, hex_text}

module _ (d : ℕ) (small : d < 16) where
  figure : d < 10 → mark_of (48 + d) ≡ Digit d
  unfolding mark_of
  figure h = let low : 48 ≤ 48 + d = omega arith in let high : 48 + d ≤ 57 = omega arith in let same : 48 + d - 48 ≡ d = omega arith in
      simp (le-leb _ _ low, le-leb _ _ high, same)

  letter : 10 ≤ d → mark_of (55 + d) ≡ Digit d
  unfolding mark_of
  letter h =
      let low : 48 ≤ 55 + d = omega arith in
      let past : 57 < 55 + d = omega arith in
      let least : 65 ≤ 55 + d = omega arith in
      let high : 55 + d ≤ 70 = omega arith in
      let same : 55 + d - 55 ≡ d = omega arith in
      simp (le-leb _ _ low, lt-leb _ _ past, le-leb _ _ least, le-leb _ _ high, same)

  glyph-mark : mark_of (glyph_of d) ≡ Digit d
  unfolding glyph_of
  glyph-mark = by-test (ltb d 10) refl
    where
      by-test : (t : Bool) → ltb d 10 ≡ t → mark_of (pick t (48 + d) (55 + d)) ≡ Digit d
      by-test true e = figure (ltb-true d 10 e)
      by-test false e = letter (ltb-false d 10 e)

pub decode-encode : (s : List ℕ) → Bytes s → hex_bytes (hex_text s) ≡ s
unfolding hex_bytes hex_text digits paired
decode-encode [] bytes = refl
decode-encode (b ∷ s) bytes =
    simp (glyph-mark (b / 16) (omega (arith, bytes.0)), glyph-mark (b % 16) (omega arith))
    (ap₂ (λ (x : ℕ) (t : List ℕ). x ∷ t) (div-add-mod' b 16) (decode-encode s bytes.1))

digits-text : (s : List ℕ) → Bytes s → length (digits (hex_text s)) ≡ 2 * length s
unfolding hex_text digits
digits-text [] bytes = refl
digits-text (b ∷ s) bytes =
    simp (glyph-mark (b / 16) (omega (arith, bytes.0)), glyph-mark (b % 16) (omega arith))
    (omega (arith, digits-text s bytes.1))

is-hex : (s : List ℕ) → Bytes s → is_hex (hex_text s) ≡ true
unfolding hex_text is_hex
is-hex [] bytes = refl
is-hex (b ∷ s) bytes =
    simp (glyph-mark (b / 16) (omega (arith, bytes.0)), glyph-mark (b % 16) (omega arith))
    (is-hex s bytes.1)

pub kind-encode : (s : List ℕ) → Bytes s → kind_of (hex_text s) ≡ Some (2 * length s)
unfolding kind_of
kind-encode s bytes = simp (is-hex s bytes) (ap Some (digits-text s bytes))
