-- An IMEI as text is read exactly where it stands, and it has 17 bytes.
use Prim.Native.Nat.{ℕ, suc, ◌+◌, ◌-◌, ◌^◌, ◌≤◌, ◌<◌}
use native.Mathlib.Omega.{arith}
use mathlib.Core.Path.{◌≡◌, refl, sym, ap, ◌∙◌, subst}
use mathlib.Core.Bool.{false}
use mathlib.Core.List.{List, [], ◌∷◌}
use lib.ListN.{length, length-append}
use lib.Dec.{eqb, leb, lit<}
use borrow.Author.Tests.{le-leb, leb-true, eqb-true}
use Rattle.wire.specs.Numbers.{be, digits, value_from, pick}
use Rattle.wire.specs.Sequences.{joined}
use Rattle.wire.specs.Reading.{got, pure, here, require, number, repeat}
use Rattle.wire.specs.Imei.{ascii_digit, imei_text, text_digit, read_imei}
use Rattle.wire.proofs.Widths.{one_byte, length_digits, digits-small, value-digits, digits_value, value-lt}
use Rattle.wire.proofs.Placed.{between_join, between_split, between-moved, between-bytes}
use Rattle.wire.proofs.Accepting.{both_true}
use Rattle.wire.proofs.Exactness.{meets-then, meets-next, meets-pure, meets-here, meets-require, then-got, here-got, require-got, Exact, number-exact, repeat-sound, repeat-complete}

digit-bytes : (d : ℕ) → d < 10 → be 1 (48 + d) ≡ ascii_digit d
digit-bytes d h = one_byte (48 + d) (omega arith)

pub digit-exact : Exact text_digit ascii_digit (λ d. d < 10)
unfolding text_digit pure
digit-exact =
    record {
      sound = λ s at h i. meets-then here _ s at (meets-here s at) (λ start n₀ k₀.
          meets-then (number 1) _ s n₀ ((number-exact 1).sound s n₀ h (omega (arith, k₀.1))) (λ c next k.
          meets-next (require (pick (leb 48 c) (leb c 57) false) 15 start) _ s next (meets-require _ _ _ s next) (λ u end r.
          let range = both_true (leb 48 c) (leb c 57) r.0 in
          let low : 48 ≤ c = leb-true 48 c range.0 in
          let high : c ≤ 57 = leb-true c 57 range.1 in
          let small : c - 48 < 10 = omega arith in
          let same : be 1 c ≡ ascii_digit (c - 48) = ap (be 1) (omega arith) ∙ digit-bytes (c - 48) small in
          meets-pure _ s end (between-moved k₀.1 (sym r.1) (between-bytes same k.0), small))));
      complete = λ s at d next h f.
          here-got _ s at
          ∙ then-got (number 1) _ s at ((number-exact 1).complete s at (48 + d) next (omega arith) (between-bytes (sym (digit-bytes d h)) f))
          ∙ require-got (pick (leb 48 (48 + d)) (leb (48 + d) 57) false) 15 at _ s next (simp (le-leb 48 (48 + d) (omega arith), le-leb (48 + d) 57 (omega arith)))
          ∙ ap (λ (x : ℕ). got x next) (omega arith);
    }

pub imei-exact : Exact read_imei imei_text (λ imei. imei < 10 ^ 15)
unfolding read_imei imei_text pure
imei-exact =
    record {
      sound = λ s at h i. meets-then here _ s at (meets-here s at) (λ start n₀ k₀.
          meets-then (number 2) _ s n₀ ((number-exact 2).sound s n₀ h (omega (arith, k₀.1))) (λ size n₁ k₁.
          meets-next (require (eqb size 15) 15 start) _ s n₁ (meets-require _ _ _ s n₁) (λ u n₂ k₂.
          meets-then (repeat 15 text_digit) _ s n₂ (repeat-sound digit-exact 15 s n₂ h (omega (arith, k₂.1, k₁.0.inside))) (λ ds n₃ k₃.
          let counted = between-bytes (ap (be 2) (eqb-true size 15 k₂.0)) (between-moved k₀.1 (sym k₂.1) k₁.0) in
          let same : ds ≡ digits 10 15 (value_from 10 0 ds) =
          sym (digits_value 10 ds (lit< tt) k₃.1.1) ∙ ap (λ (n : ℕ). digits 10 n (value_from 10 0 ds)) k₃.1.0
          in
          meets-pure _ s n₃ (
            between_join counted (between-bytes (ap (joined ascii_digit) same) k₃.0),
            subst (λ (n : ℕ). value_from 10 0 ds < 10 ^ n) k₃.1.0 (value-lt 10 ds k₃.1.1),
          )))));
      complete = λ s at imei next h f.
          let ds = digits 10 15 imei in
          let a = between_split (be 2 15) f in
          here-got _ s at
          ∙ then-got (number 2) _ s at ((number-exact 2).complete s at 15 _ (lit< tt) a.0)
          ∙ require-got (eqb 15 15) 15 at _ s _ refl
          ∙ then-got (repeat 15 text_digit) _ s _
          (ap (λ (n : ℕ). repeat n text_digit s (at + length (be 2 15))) (sym (length_digits 10 15 imei))
          ∙ repeat-complete digit-exact ds s _ next (digits-small 10 15 imei (lit< tt)) a.1)
          ∙ ap (λ (x : ℕ). got x next) (value-digits 10 15 imei (lit< tt) h);
    }

pub length-digit_bytes : (ds : List ℕ) → length (joined ascii_digit ds) ≡ length ds
length-digit_bytes [] = refl
length-digit_bytes (d ∷ ds) = ap suc (length-digit_bytes ds)

pub length-imei_text : (imei : ℕ) → length (imei_text imei) ≡ 17
unfolding imei_text
length-imei_text imei =
    let ds = digits 10 15 imei in
    omega (arith, length-append (be 2 15) (joined ascii_digit ds), length_digits 256 2 15, length-digit_bytes ds, length_digits 10 15 imei)
