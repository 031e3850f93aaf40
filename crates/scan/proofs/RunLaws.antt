-- The digits that text begins with, one by one, and what a field that begins with them is.
use Rattle.std.specs.Prelude.{Err, Ok, ◌&&◌, Some, None}
use Rattle.std.proofs.lemmas.Option.{some_pair_parts}
use Rattle.std.specs.Char.{is_ascii_digit}
use Prim.Native.Nat.{ℕ, suc, ◌+◌, ◌-◌, ◌*◌, ◌^◌, ◌≤◌, ◌<◌}
use native.Mathlib.Nat.{le_refl}
use native.Mathlib.Omega.{arith}
use mathlib.Core.Path.{◌≡◌, refl, sym, ap, ◌∙◌, subst}
use mathlib.Core.Bool.{Bool, true, false}
use mathlib.Core.List.{List, [], ◌∷◌}
use lib.ListN.{length, drop, get_or, drop_of_length-le}
use lib.Seq.{drop-cons}
use lib.Dec.{leb}
use borrow.Author.Tests.{le-leb, lt-leb, leb-true, leb-false}
use Rattle.wire.specs.Numbers.{value_from, pick}
use Rattle.wire.specs.Sequences.{All}
use Rattle.wire.proofs.Widths.{value-lt}
use Rattle.wire.specs.Answers.{Answer, refusal, check, check_at}
use Rattle.wire.proofs.Accepting.{both_true, check-failed, check-passed}
use Rattle.text.specs.Hex.{among}
use Rattle.line.proofs.DecimalLaws.{value_grows}
use Rattle.line.specs.LineReader.{all_digits, digits_of, said, no_spare_zero, read_decimal}
use Rattle.scan.specs.Fields.{run, number_as, run_as}

-- ---- the run by its first byte

digit-test : (c : ℕ) → among 48 57 c ≡ is_ascii_digit c
digit-test c = go (leb 48 c) (leb c 57)
  where
    go : (a b : Bool) → pick a b false ≡ (a && b)
    go true b = refl
    go false b = refl

run-digit : (c : ℕ) (s : List ℕ) → is_ascii_digit c ≡ true → run (c ∷ s) ≡ c ∷ run s
unfolding run
run-digit c s e = simp (digit-test c ∙ e)

run-other : (c : ℕ) (s : List ℕ) → is_ascii_digit c ≡ false → run (c ∷ s) ≡ []
unfolding run
run-other c s e = simp (digit-test c ∙ e)

-- ---- the loop: what was read, and what is left

pub record RunLeft (t : List ℕ) (at n i : ℕ) : Type 0 where
  pub from : at ≤ i
  pub inside : i ≤ length t
  pub value : value_from 10 n (digits_of (run (drop i t))) ≡ said (run (drop at t))
  pub place : i + length (run (drop i t)) ≡ at + length (run (drop at t))

module _ (t : List ℕ) (at : ℕ) where
  pub run-start : at ≤ length t → RunLeft t at 0 at
  run-start h = record { from = le_refl at; inside = h; value = refl; place = refl }

  module _ {n i : ℕ} (l : RunLeft t at n i) where
    module _ (h : i < length t) (k : is_ascii_digit (get_or t i 0) ≡ true) where
      head : run (drop i t) ≡ get_or t i 0 ∷ run (drop (suc i) t)
      head = ap run (drop-cons t i 0 h) ∙ run-digit (get_or t i 0) (drop (suc i) t) k

      pub run-turn : RunLeft t at (n * 10 + (get_or t i 0 - 48)) (i + 1)
      unfolding digits_of value_from
      run-turn =
          let next : suc i ≡ i + 1 = omega arith in
          let more = head in
          let same : run (drop (suc i) t) ≡ run (drop (i + 1) t) = ap (λ (j : ℕ). run (drop j t)) next in
          let size = ap length more in
          record {
            from = omega (arith, l.from);
            inside = omega arith;
            value =
                ap (λ (s : List ℕ). value_from 10 (n * 10 + (get_or t i 0 - 48)) (digits_of s)) (sym same)
                ∙ ap (λ (s : List ℕ). value_from 10 n (digits_of s)) (sym more)
                ∙ l.value;
            place = omega (arith, l.place, size, ap length same);
          }

      -- too large now, too large at the end
      pub run-large : 2 ^ 64 ≤ n * 10 + (get_or t i 0 - 48) → None ≡ run_as at (run (drop at t))
      unfolding run_as number_as check_at
      run-large big =
          let m = run-turn in
          let grows = value_grows (n * 10 + (get_or t i 0 - 48)) (run (drop (i + 1) t)) in
          let over : 2 ^ 64 - 1 < said (run (drop at t)) = omega (arith, big, grows, m.value) in
          sym (simp (lt-leb (said (run (drop at t))) (2 ^ 64 - 1) over))

    -- no digit is left
    pub run-done : run (drop i t) ≡ [] → n < 2 ^ 64 → Some (n, i) ≡ run_as at (run (drop at t))
    unfolding run_as number_as check_at digits_of value_from
    run-done e small =
        let value : n ≡ said (run (drop at t)) = ap (λ (s : List ℕ). value_from 10 n (digits_of s)) (sym e) ∙ l.value in
        let place : i ≡ at + length (run (drop at t)) = omega (arith, l.place, ap length e) in
        let fits : said (run (drop at t)) ≤ 2 ^ 64 - 1 = omega (arith, value, small) in
        (λ j. Some (value j, place j)) ∙ sym (simp (le-leb (said (run (drop at t))) (2 ^ 64 - 1) fits))

    pub run-stop : i < length t → is_ascii_digit (get_or t i 0) ≡ false → n < 2 ^ 64 → Some (n, i) ≡ run_as at (run (drop at t))
    run-stop h k small = run-done (ap run (drop-cons t i 0 h) ∙ run-other (get_or t i 0) (drop (suc i) t) k) small

    pub run_end : length t ≤ i → n < 2 ^ 64 → Some (n, length t) ≡ run_as at (run (drop at t))
    unfolding run
    run_end h small = let all : length t ≡ i = omega (arith, h, l.inside) in ap (λ (j : ℕ). Some (n, j)) all ∙ run-done (ap run (drop_of_length-le t {i = i} h)) small

-- ---- a number without spare zeros

pub check-refused : {A : Type 0} (test : Bool) → check {A = A} test 20 (Err (refusal 20)) ≡ Err (refusal 20)
unfolding check_at
check-refused true = refl
check-refused false = refl

module _ (most : ℕ) (s : List ℕ) where
  pub decimal-over : most < said s → read_decimal most s ≡ Err (refusal 20)
  unfolding read_decimal
  decimal-over h =
      ap (λ (r : Answer ℕ). check (no_spare_zero s) 20 (check (all_digits s) 20 r)) (check-failed (leb (said s) most) 20 _ _ (lt-leb (said s) most h))
      ∙ ap (λ (r : Answer ℕ). check (no_spare_zero s) 20 r) (check-refused (all_digits s))
      ∙ check-refused (no_spare_zero s)

  pub decimal-spare : no_spare_zero s ≡ false → read_decimal most s ≡ Err (refusal 20)
  unfolding read_decimal
  decimal-spare e = check-failed (no_spare_zero s) 20 _ _ e

  pub decimal-other : all_digits s ≡ false → read_decimal most s ≡ Err (refusal 20)
  unfolding read_decimal
  decimal-other e = ap (λ (r : Answer ℕ). check (no_spare_zero s) 20 r) (check-failed (all_digits s) 20 _ _ e) ∙ check-refused (no_spare_zero s)

  pub decimal-good : no_spare_zero s ≡ true → all_digits s ≡ true → said s ≤ most → read_decimal most s ≡ Ok (said s)
  unfolding read_decimal
  decimal-good e d h = check-passed (no_spare_zero s) 20 _ _ e ∙ check-passed (all_digits s) 20 _ _ d ∙ check-passed (leb (said s) most) 20 _ _ (le-leb (said s) most h)

pub run-digits : (s : List ℕ) → all_digits (run s) ≡ true
unfolding run all_digits
run-digits [] = refl
run-digits (c ∷ s) = go (among 48 57 c) refl (run-digits s)
  where
    go : (t : Bool) → among 48 57 c ≡ t → all_digits (run s) ≡ true → all_digits (pick t (c ∷ run s) []) ≡ true
    go true e h = simp e h
    go false e h = refl

-- what a run tells, of the text that it stands in
module _ (t : List ℕ) (at : ℕ) where
  -- too large for 64 bits
  pub run-wrong : None ≡ run_as at (run (drop at t)) → 2 ^ 64 ≤ said (run (drop at t))
  unfolding run_as number_as check_at
  run-wrong e = go (leb (said (run (drop at t))) (2 ^ 64 - 1)) refl (e)
    where
      go : (b : Bool) → leb (said (run (drop at t))) (2 ^ 64 - 1) ≡ b
          → None ≡ number_as (at + length (run (drop at t))) (check b 20 (Ok (said (run (drop at t))))) → 2 ^ 64 ≤ said (run (drop at t))
      go true e h = absurd (let z : ◌≡◌ {A = ℕ} 0 1 = cc in omega arith)
      go false e h = omega (arith, leb-false (said (run (drop at t))) (2 ^ 64 - 1) e)

  pub run-right : {n end : ℕ} → Some (n, end) ≡ run_as at (run (drop at t)) → (n ≡ said (run (drop at t))) × (end ≡ at + length (run (drop at t)))
  unfolding run_as number_as check_at
  run-right {n} {end} e = go (leb (said (run (drop at t))) (2 ^ 64 - 1)) e
    where
      go : (b : Bool) → Some (n, end) ≡ number_as (at + length (run (drop at t))) (check b 20 (Ok (said (run (drop at t)))))
          → (n ≡ said (run (drop at t))) × (end ≡ at + length (run (drop at t)))
      go true h = some_pair_parts _ _ _ _ h
      go false h = absurd (let z : ◌≡◌ {A = ℕ} 0 1 = cc in omega arith)

-- ---- so many digits say a number below that power of ten

length-digits_of : (s : List ℕ) → length (digits_of s) ≡ length s
unfolding digits_of
length-digits_of [] = refl
length-digits_of (c ∷ s) = ap suc (length-digits_of s)

digits-below : (s : List ℕ) → all_digits s ≡ true → All (λ d. d < 10) (digits_of s)
unfolding all_digits digits_of
digits-below [] e = tt
digits-below (c ∷ s) e =
    let k = both_true (among 48 57 c) (all_digits s) e in
    let m = both_true (leb 48 c) (leb c 57) k.0 in
    (omega (arith, leb-true 48 c m.0, leb-true c 57 m.1), digits-below s k.1)

pub said-below : (s : List ℕ) → all_digits s ≡ true → said s < 10 ^ length s
said-below s e = subst (λ (n : ℕ). said s < 10 ^ n) (length-digits_of s) (value-lt 10 (digits_of s) (digits-below s e))
