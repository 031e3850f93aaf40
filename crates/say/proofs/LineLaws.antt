-- A text's first line, and the text from a line on.
use Rattle.std.proofs.Common.{ℕ, suc, ◌+◌, ◌-◌, ◌≤◌, ◌==◌, nat_lt, arith, ◌≡◌, refl, sym, ap, ◌∙◌, Bool, true, false, not, cond, eqb, List, [], ◌∷◌, Some, None, position, length, take, drop, length-drop, drop-drop}
use Rattle.std.specs.List.{position_or_len}
use Rattle.std.proofs.lemmas.Bool.Decides.{nat_tests}
use Rattle.wire.specs.Numbers.{pick}
use Rattle.say.specs.Lines.{line_length, from_line, line_of}
use Rattle.say.proofs.PageLaws.{rest}

-- ---- the first line

pub line-fits : (s : List ℕ) → line_length s ≤ length s
unfolding line_length
line-fits [] = omega arith
line-fits (c ∷ s) = split (line-fits s) (eqb c 10)
  where
    split : line_length s ≤ length s → (t : Bool) → pick t 1 (suc (line_length s)) ≤ suc (length s)
    split h true = omega arith
    split h false = omega arith

abbrev is_end : ℕ → Bool
is_end c = c == 10

line-position : (s : List ℕ) → line_length s ≡ cond (nat_lt (position_or_len is_end s) (length s)) (position_or_len is_end s + 1) (length s)
unfolding line_length
line-position [] = refl
line-position (c ∷ s) = split (line-position s) (eqb c 10)
  where
    split : line_length s ≡ cond (nat_lt (position_or_len is_end s) (length s)) (position_or_len is_end s + 1) (length s) → (t : Bool)
        → pick t 1 (suc (line_length s)) ≡ cond (nat_lt (cond (not t) (1 + position_or_len is_end s) 0) (suc (length s))) (cond (not t) (1 + position_or_len is_end s) 0 + 1) (suc (length s))
    split h true = grind (arith, nat_tests)
    split h false = grind (arith, nat_tests, h)

pub line-found : (s : List ℕ) (i : ℕ) → Some i ≡ position is_end s → i + 1 ≡ line_length s
line-found s i e = grind (arith, nat_tests, line-position s)

pub line-whole : (s : List ℕ) → None ≡ position is_end s → length s ≡ line_length s
line-whole s e = grind (arith, nat_tests, line-position s)

-- ---- the text from a line on: `left` lines behind the place `at`

pub record LinesLeft (s : List ℕ) (n at left : ℕ) : Type 0 where
  pub inside : at ≤ length s
  pub same : from_line left (drop at s) ≡ from_line n s

module _ {s : List ℕ} {n at left k : ℕ} (h : LinesLeft s n at left) (e : k ≡ line_length (take (length s - at) (drop at s))) where
  pub line-inside : at + k ≤ length s
  line-inside =
      let fits : line_length (drop at s) ≤ length (drop at s) = line-fits (drop at s) in
      let size : length (drop at s) ≡ length s - at = length-drop at s in
      omega (arith, e ∙ ap line_length (rest s at), h.inside)

  pub lines_next : {fewer : ℕ} → left ≡ suc fewer → LinesLeft s n (at + k) fewer
  unfolding from_line
  lines_next {fewer} one =
      let step : k ≡ line_length (drop at s) = e ∙ ap line_length (rest s at) in
      record {
        inside = line-inside;
        same = rw step (sym (ap (from_line fewer) (drop-drop (line_length (drop at s)) at s)) ∙ sym (ap (λ (m : ℕ). from_line m (drop at s)) one) ∙ h.same);
      }

  pub lines-done : left ≤ 0 → take (at + k - at) (drop at s) ≡ line_of n s
  unfolding from_line line_of
  lines-done none =
      let zero_left : left ≡ 0 = omega arith in
      let here : drop at s ≡ from_line n s = ap (λ (m : ℕ). from_line m (drop at s)) (sym zero_left) ∙ h.same in
      let size : at + k - at ≡ k = omega arith in
      let step : k ≡ line_length (drop at s) = e ∙ ap line_length (rest s at) in
      rw (size, step, here) refl
