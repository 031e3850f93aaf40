-- What a loop over a line has left to read.
use Rattle.std.proofs.Common.{◌≡◌, ℕ, zero, suc, ◌+◌, ◌-◌, ◌<◌, ◌≤◌, Bool, true, false, eqb, List, [], ◌∷◌, length, get_or, take, drop, sym, refl, ap, ◌∙◌, arith, drop_of_length-le, eq-eqb, ne_eqb}
use Rattle.wire.specs.Numbers.{pick}
use Rattle.views.specs.Words.{spaces, first_word, behind_word, word_at}
use Rattle.text.proofs.HexLaws.{next}

module _ (s : List ℕ) (i : ℕ) (inside : i < length s) where
  -- ---- spaces

  pub spaces-more : get_or s i 0 ≡ 32 → spaces (drop i s) ≡ 1 + spaces (drop (i + 1) s)
  unfolding spaces
  spaces-more e = rw (next s i inside) (simp (eq-eqb _ _ e))

  pub spaces-same : (get_or s i 0 ≡ 32 → ⊥) → spaces (drop i s) ≡ spaces (drop (i + 1) s)
  unfolding spaces
  spaces-same e = rw (next s i inside) (simp (ne_eqb _ _ e))

  -- ---- the first word, and what is behind it

  first-space : get_or s i 0 ≡ 32 → first_word (drop i s) ≡ []
  unfolding first_word
  first-space e = rw (next s i inside) (simp (eq-eqb _ _ e))

  first_on : (get_or s i 0 ≡ 32 → ⊥) → first_word (drop i s) ≡ get_or s i 0 ∷ first_word (drop (i + 1) s)
  unfolding first_word
  first_on e = rw (next s i inside) (simp (ne_eqb _ _ e))

  behind-space : get_or s i 0 ≡ 32 → behind_word (drop i s) ≡ drop (i + 1) s
  unfolding behind_word
  behind-space e = rw (next s i inside) (simp (eq-eqb _ _ e))

  behind-on : (get_or s i 0 ≡ 32 → ⊥) → behind_word (drop i s) ≡ behind_word (drop (i + 1) s)
  unfolding behind_word
  behind-on e = rw (next s i inside) (simp (ne_eqb _ _ e))

pub spaces-done : (s : List ℕ) (i : ℕ) → length s ≤ i → spaces (drop i s) ≡ 0
unfolding spaces
spaces-done s i h = rw (drop_of_length-le s {i = i} h) refl

-- ---- the word that starts at `start`, read up to `i`, with so many words to come before the one that is wanted

pub record WordLeft (s : List ℕ) (k left start i : ℕ) : Type 0 where
  pub inside : i ≤ length s
  pub begun : start ≤ i
  pub wanted : word_at left (drop start s) ≡ word_at k s
  pub behind : behind_word (drop start s) ≡ behind_word (drop i s)
  pub size : length (first_word (drop start s)) ≡ (i - start) + length (first_word (drop i s))

pub word_first : (s : List ℕ) (k : ℕ) → WordLeft s k k 0 0
word_first s k = record { inside = omega arith; begun = omega arith; wanted = refl; behind = refl; size = omega arith }

first_taken : (s : List ℕ) → first_word s ≡ take (length (first_word s)) s
unfolding first_word
first_taken [] = refl
first_taken (c ∷ s) = both (eqb c 32) (first_taken s)
  where
    both : (t : Bool) → first_word s ≡ take (length (first_word s)) s → pick t [] (c ∷ first_word s) ≡ take (length (pick t [] (c ∷ first_word s))) (c ∷ s)
    both true e = refl
    both false e = ap (λ (t : List ℕ). c ∷ t) e

nothing-at : (k : ℕ) → word_at k [] ≡ []
unfolding word_at first_word behind_word
nothing-at zero = refl
nothing-at (suc k) = nothing-at k

word-step : (s : List ℕ) (n : ℕ) → 0 < n → word_at n s ≡ word_at (n - 1) (behind_word s)
unfolding word_at
word-step s zero h = absurd (omega arith)
word-step s (suc n) h = let one : suc n - 1 ≡ n = omega arith in rw one refl

module _ {s : List ℕ} {k left start i : ℕ} (w : WordLeft s k left start i) where
  -- a word that ends here is the wanted one
  ends : first_word (drop i s) ≡ [] → left ≡ 0 → take (i - start) (drop start s) ≡ word_at k s
  unfolding word_at
  ends e none =
      let size : length (first_word (drop start s)) ≡ i - start = omega (arith, w.size, ap length e) in
      sym (first_taken (drop start s) ∙ ap (λ (n : ℕ). take n (drop start s)) size) ∙ (rw none at w.wanted)

  pub word-ends : i < length s → get_or s i 0 ≡ 32 → left ≡ 0 → take (i - start) (drop start s) ≡ word_at k s
  word-ends h e = ends (first-space s i h e)

  pub word-last : length s ≤ i → left ≡ 0 → take (length s - start) (drop start s) ≡ word_at k s
  unfolding first_word
  word-last h none =
      let all : i ≡ length s = omega (arith, w.inside) in
      rw (← all) (ends (rw (drop_of_length-le s {i = i} h) refl) none)

  pub word-missing : length s ≤ i → 0 < left → word_at k s ≡ []
  unfolding behind_word
  word-missing h more =
      let none : behind_word (drop i s) ≡ [] = rw (drop_of_length-le s {i = i} h) refl in
      sym w.wanted ∙ (word-step (drop start s) left more ∙ (ap (word_at (left - 1)) (w.behind ∙ none) ∙ nothing-at (left - 1)))

  pub word_on : i < length s → (get_or s i 0 ≡ 32 → ⊥) → WordLeft s k left start (i + 1)
  word_on h e =
      record {
        inside = omega arith;
        begun = omega (arith, w.begun);
        wanted = w.wanted;
        behind = w.behind ∙ behind-on s i h e;
        size = omega (arith, w.size, w.begun, ap length (first_on s i h e));
      }

  pub word_next : i < length s → get_or s i 0 ≡ 32 → 0 < left → WordLeft s k (left - 1) (i + 1) (i + 1)
  word_next h e more =
      record {
        inside = omega arith;
        begun = omega arith;
        wanted = sym (ap (word_at (left - 1)) (w.behind ∙ behind-space s i h e)) ∙ (sym (word-step (drop start s) left more) ∙ w.wanted);
        behind = refl;
        size = omega arith;
      }
