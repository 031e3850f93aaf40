-- The digits of a text by their distance from 48.
use Rattle.std.specs.Prelude.{Ok, Err}
use Prim.Native.Nat.{ℕ, suc, ◌+◌, ◌-◌, ◌*◌, ◌%◌, ◌^◌, ◌≤◌, ◌<◌}
use native.Mathlib.Nat.{pow-le-pow_right, not-suc-le-zero}
use borrow.Author.Count.{below_more}
use Rattle.std.proofs.lemmas.Bool.Decides.{nat_tests}
use Rattle.std.proofs.lemmas.List.Edits.{length-between, get_or-between}
use Rattle.std.proofs.lemmas.List.Sums.{prefix_len_passes, prefix_len_stops}
use Rattle.std.specs.List.{between, prefix_len}
use Rattle.std.specs.Char.{is_ascii_digit}
use native.Mathlib.Omega.{arith}
use mathlib.Core.Path.{◌≡◌, refl, sym, ap, ◌∙◌, subst}
use mathlib.Core.Bool.{Bool, true, false}
use Rattle.std.proofs.lemmas.Bool.{true≢false}
use mathlib.Core.List.{List}
use lib.ListN.{length, get_or}
use lib.Dec.{leb, lit<}
use borrow.Author.Tests.{le-leb, leb-true}
use Rattle.wire.specs.Numbers.{Bytes, pick}
use Rattle.wire.specs.Reading.{got, bad}
use Rattle.wire.specs.Answers.{refusal_at, told}
use Rattle.wire.specs.Imei.{text_digit}
use Rattle.wire.proofs.Widths.{bytes-get_d}
use Rattle.wire.proofs.Accepting.{by_length, both_true, told-got, told-whole}
use Rattle.wire.proofs.DigitLaws.{numbered_of, numbered-unread, digit-right, digit-wrong, DigitsLeft, digits_from, digits-start, digits-turn, digits-stop, digits-below, digits-done}
use Rattle.wire.proofs.ImeiText.{digit-exact}

-- a byte that is as near to 48 as a digit is one
ascii-digit : {c : ℕ} → c < 256 → (c + 208) % 256 ≤ 9 → is_ascii_digit c ≡ true
ascii-digit {c} h d = let low : 48 ≤ c = omega arith in let high : c ≤ 57 = omega arith in simp (le-leb 48 c low, le-leb c 57 high)

ascii-other : {c : ℕ} → c < 256 → 9 < (c + 208) % 256 → is_ascii_digit c ≡ false
ascii-other {c} h d = grind (arith, nat_tests)

-- one byte of the text, by its distance from 48
module _ (s : List ℕ) (at : ℕ) (h : at + 1 ≤ length s) (b : get_or s at 0 < 256) where
  pub digit-byte : (get_or s at 0 + 208) % 256 ≤ 9 → text_digit s at ≡ got ((get_or s at 0 + 208) % 256) (at + 1)
  unfolding text_digit
  digit-byte k =
      let low : 48 ≤ get_or s at 0 = omega arith in
      let high : get_or s at 0 ≤ 57 = omega arith in
      numbered_of _ (digit-right _ _ s at h (simp (le-leb 48 _ low, le-leb _ 57 high)))
      ∙ ap (λ (d : ℕ). got d (at + 1)) (omega arith)

  pub other_byte : 9 < (get_or s at 0 + 208) % 256 → text_digit s at ≡ bad (record { number = 15; index = 0; place = at })
  unfolding text_digit
  other_byte k = numbered-unread _ (digit-wrong _ _ s at h (no (pick (leb 48 (get_or s at 0)) (leb (get_or s at 0) 57) false) refl))
    where
      no : (t : Bool) → pick (leb 48 (get_or s at 0)) (leb (get_or s at 0) 57) false ≡ t → pick (leb 48 (get_or s at 0)) (leb (get_or s at 0) 57) false ≡ false
      no true e =
          let t = both_true (leb 48 (get_or s at 0)) (leb (get_or s at 0) 57) e in
          absurd (omega (arith, leb-true 48 (get_or s at 0) t.0, leb-true (get_or s at 0) 57 t.1))
      no false e = e

-- ---- a loop over the `n` bytes of the text: where it stands after `i` of them, that its number stays small, and what it will answer

abbrev pub text_at : ℕ → List ℕ → ℕ → List ℕ
text_at n s at = between at (at + n) s

pub record TextLeft (n : ℕ) (s : List ℕ) (at value i : ℕ) : Type 0 where
  pub left : DigitsLeft text_digit 10 (10 ^ 15) (n - i) value s (at + i) (digits_from text_digit 10 n 0 s at)
  pub digits : (k : ℕ) → k < i → is_ascii_digit (get_or s (at + k) 0) ≡ true

module _ {n : ℕ} {s : List ℕ} {at : ℕ} where
  pub text-start : n ≤ 15 → at + n ≤ length s → TextLeft n s at 0 0
  text-start few h =
      let small : 10 ^ n ≤ 10 ^ 15 = pow-le-pow_right (lit< tt) few in
      let place : at ≡ at + 0 = omega arith in
      let left : DigitsLeft text_digit 10 (10 ^ 15) (n - 0) 0 s at (digits_from text_digit 10 n 0 s at) = digits-start text_digit 10 n (omega arith) (omega arith) in
      record {
        left = subst (λ (j : ℕ). DigitsLeft text_digit 10 (10 ^ 15) (n - 0) 0 s j (digits_from text_digit 10 n 0 s at)) place left;
        digits = λ k h. absurd (not-suc-le-zero h);
      }

  module _ (h : at + n ≤ length s) {value i : ℕ} (k : TextLeft n s at value i) where
    size : length (text_at n s at) ≡ n
    size = length-between s at (at + n) h ∙ omega arith

    pub text-done : i ≤ length (text_at n s at) → length (text_at n s at) ≤ i → Ok value ≡ told 0 (digits_from text_digit 10 n 0 s at)
    text-done low high =
        let none : n - i ≡ 0 = omega (arith, size) in
        sym (told-got 0 _ (digits-done none k.left))

    module _ (b : Bytes s) (more : i < length (text_at n s at)) where
      digit : ℕ
      digit = (get_or s (at + i) 0 + 208) % 256

      within : i < n
      within = omega (arith, size)

      some : 0 < n - i
      some = omega (arith, within)

      there : at + i + 1 ≤ length s
      there = omega (arith, within)

      byte : get_or s (at + i) 0 < 256
      byte = bytes-get_d s (at + i) b

      same : (k : ℕ) → k < n → get_or (text_at n s at) k 0 ≡ get_or s (at + k) 0
      same k l = get_or-between s at (at + n) k 0 (omega arith)

      turn : digit ≤ 9 → TextLeft n s at (value * 10 + digit) (i + 1)
      unfolding digit
      turn d =
          let left : n - i - 1 ≡ n - (i + 1) = omega arith in
          let place : at + i + 1 ≡ at + (i + 1) = omega arith in
          record {
            left = rw (left, place) at (digits-turn some k.left digit-exact b (digit-byte s (at + i) there byte d));
            digits = below_more _ i k.digits (ascii-digit byte d);
          }

      pub text-turn : (get_or (text_at n s at) i 0 + 208) % 256 ≤ 9 → TextLeft n s at (value * 10 + (get_or (text_at n s at) i 0 + 208) % 256) (i + 1)
      unfolding digit
      text-turn = subst (λ (c : ℕ). (c + 208) % 256 ≤ 9 → TextLeft n s at (value * 10 + (c + 208) % 256) (i + 1)) (sym (same i within)) turn

      pub text-below : (get_or (text_at n s at) i 0 + 208) % 256 ≤ 9 → value * 10 + (get_or (text_at n s at) i 0 + 208) % 256 < 10 ^ 15
      text-below d = digits-below (lit< tt) (text-turn d).left

      -- `i` digits come before a byte that is none
      pub text-digits : 9 < (get_or (text_at n s at) i 0 + 208) % 256 → prefix_len is_ascii_digit (text_at n s at) ≡ i
      text-digits d =
          let text = text_at n s at in
          let other : is_ascii_digit (get_or text i 0) ≡ false = ascii-other (subst (λ (c : ℕ). c < 256) (sym (same i within)) byte) d in
          let short : prefix_len is_ascii_digit text ≤ i = by_length (suc i) (prefix_len is_ascii_digit text)
          (λ l. absurd (true≢false (sym (prefix_len_passes is_ascii_digit text i 0 l) ∙ other)))
          (λ l. omega arith) in
          let far : i ≤ prefix_len is_ascii_digit text = by_length i (prefix_len is_ascii_digit text)
          (λ l. l)
          (λ l. absurd (true≢false (sym (k.digits (prefix_len is_ascii_digit text) l) ∙ ap is_ascii_digit (sym (same (prefix_len is_ascii_digit text) (omega (arith, within)))) ∙ prefix_len_stops is_ascii_digit text 0 (omega arith))))
          in omega arith

      pub text-wrong : {r : ℕ} → r ≡ i → 9 < (get_or (text_at n s at) i 0 + 208) % 256 → Err (refusal_at 15 (at + r)) ≡ told 0 (digits_from text_digit 10 n 0 s at)
      text-wrong e d =
          let wrong : 9 < (get_or s (at + i) 0 + 208) % 256 = subst (λ (c : ℕ). 9 < (c + 208) % 256) (same i within) d in
          ap (λ (j : ℕ). Err (refusal_at 15 (at + j))) e ∙ sym (told-whole _ (digits-stop some k.left (other_byte s (at + i) there byte wrong)))
