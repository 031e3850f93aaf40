-- The digits of a number, and text with numbers by its first characters.
use Rattle.std.proofs.Common.{ℕ, ◌+◌, ◌-◌, ◌^◌, ◌≤◌, ◌<◌, arith, rules, ◌≡◌, refl, sym, ap, ◌∙◌, ◌==◌, true, false, Option, Some, None, unwrap_or, Bor, List, [], ◌∷◌, ◌++◌, length, get_or, drop, replicate, Iter}
use Rattle.std.specs.Option.{option_copied}
use Rattle.std.specs.Slice.Iter.{iter_steps, iter_rest}
use Rattle.std.proofs.Math.ListN.{get_or-eq_default}
use Rattle.std.specs.Fmt.{decimal as std_decimal}
use Rattle.std.proofs.lemmas.Fmt.{decimal_from_appends, length-decimal-le}
use Rattle.text.specs.Hex.{hex_text}
use Rattle.text.specs.Decimal.{decimal_in, decimal}
use Rattle.say.specs.Rendering.{padded, shown, is_mark, rendered, quotable, closing, group}
use Rattle.say.specs.Page.{OnPage}
use Rattle.say.proofs.PageLaws.{page-then, next, none_left}

-- ---- the digits of a number

-- std's are the same
pub same-decimal : (n : ℕ) → n < 2 ^ 64 → decimal n ≡ std_decimal n
unfolding decimal decimal_in
same-decimal n small = decimal_from_appends decimal_in (search rules) 20 n small (search (rules, length-decimal-le 20))

-- ---- a number with `pad` in front

pub padded-put : {page mid after d : List ℕ} {at next last : ℕ} (n width pad : ℕ) {times : ℕ} → d ≡ decimal n → times ≡ width - length d
    → OnPage (replicate times pad) page at mid next → OnPage d mid next after last → OnPage (padded width pad n) page at after last
unfolding padded
padded-put {d = d} n width pad e t p q = rw (← e, ← t) (page-then p q)

-- ---- text with numbers in it, by its first characters

pub render-plain : (c : ℕ) (s numbers : List ℕ) → is_mark c ≡ false → rendered (c ∷ s) numbers ≡ (c ∷ []) ++ rendered s numbers
unfolding rendered
render-plain c [] numbers e = simp e
render-plain c (d ∷ s) numbers e = simp e

pub render-mark : (c d : ℕ) (s numbers : List ℕ) → is_mark c ≡ true → rendered (c ∷ d ∷ s) numbers ≡ shown c d (get_or numbers 0 0) ++ rendered s (drop 1 numbers)
unfolding rendered
render-mark c d s numbers e = simp e

-- a mark that ends the text
pub render-last : (c : ℕ) (s numbers : List ℕ) → is_mark c ≡ true → length s ≡ 0 → rendered (c ∷ s) numbers ≡ rendered s numbers
unfolding rendered
render-last c [] numbers e none = simp e
render-last c (d ∷ s) numbers e none = absurd (omega (arith, none))

-- what `next` gives of the numbers: the first, or 0, and those behind it
pub number-next : (s t : Iter ℕ) {n : ℕ} (r : Option (Bor ℕ)) → iter_steps s r t → n ≡ unwrap_or (option_copied r) 0 → (n ≡ get_or (iter_rest s) 0 0) × (iter_rest t ≡ drop 1 (iter_rest s))
number-next s t None h is = (is ∙ sym (get_or-eq_default (iter_rest s) 0 (omega (arith, h.0))), ap iter_rest h.1 ∙ none (iter_rest s) h.0)
  where
    none : (l : List ℕ) → length l ≡ 0 → l ≡ drop 1 l
    none [] e = refl
    none (x ∷ l) e = absurd (omega (arith, e))
number-next s t (Some x) h is = (is ∙ sym (ap (λ (l : List ℕ). get_or l 0 0) h), sym (ap (drop 1) h))

pub none-rendered : (s numbers : List ℕ) → length s ≡ 0 → rendered s numbers ≡ []
unfolding rendered
none-rendered [] numbers e = refl
none-rendered (c ∷ s) numbers e = absurd (omega (arith, e))

-- ---- the rest of a text between quotes

pub closing-next : (s : List ℕ) (i : ℕ) → i < length s → closing (drop i s) ≡ quotable (get_or s i 0) ++ closing (drop (i + 1) s)
unfolding closing
closing-next s i h = rw (next s i h) refl

pub closing-last : (s : List ℕ) (i : ℕ) → length s ≤ i → closing (drop i s) ≡ (34 ∷ []) ++ []
unfolding closing
closing-last s i h = rw (none_left s i h) refl

-- ---- hex text

pub hex-next : (s : List ℕ) (i : ℕ) → i < length s → hex_text (drop i s) ≡ hex_text (get_or s i 0 ∷ []) ++ hex_text (drop (i + 1) s)
unfolding hex_text
hex-next s i h = rw (next s i h) refl

pub hex-last : (s : List ℕ) (i : ℕ) → length s ≤ i → hex_text (drop i s) ≡ []
unfolding hex_text
hex-last s i h = rw (none_left s i h) refl

pub group-some : (s : List ℕ) → (length s == 0) ≡ false → group s ≡ (32 ∷ []) ++ hex_text s
unfolding group
group-some [] e = cc
group-some (b ∷ s) e = refl
