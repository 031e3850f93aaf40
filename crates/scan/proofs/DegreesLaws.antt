-- Degrees from a text's digits: whole degrees, the point, seven places, the sign.
use Rattle.std.specs.Prelude.{Result, Ok, Err, OkIff, ◌-ℤ◌, Option, Some, None}
use Rattle.std.specs.Result.{result_ok}
use Rattle.std.proofs.lemmas.Option.{same_Some, none-some}
use mir.Syntax.{w32, w64}
use mir.Val.{to_z, of_z, SFits}
use mir.Facts.{to_z-of_z, to_z_pos}
use Prim.Native.Nat.{ℕ, zero, suc, ◌+◌, ◌-◌, ◌*◌, ◌^◌, ◌≤◌, ◌<◌}
use native.Mathlib.Omega.{arith}
use mathlib.Core.Path.{◌≡◌, refl, sym, ap, ◌∙◌, subst}
use mathlib.Core.Bool.{Bool, true, false}
use mathlib.Core.List.{List, [], ◌∷◌}
use lib.ListN.{length, drop, get_or}
use lib.IntN.{ℤ, pos, negsuc}
use lib.Dec.{eqb, leb}
use borrow.Author.Tests.{leb-true, le-leb, lt-leb, lt-ltb, ne_eqb, eq-eqb}
use Rattle.wire.specs.Numbers.{pick}
use Rattle.wire.specs.Answers.{Answer, refusal, on_accepted, check, check_at}
use Rattle.wire.proofs.Accepting.{check-failed, check-passed, pick-false}
use Rattle.line.specs.Pieces.{before, behind}
use Rattle.line.specs.LineReader.{all_digits, said, no_spare_zero, read_decimal, read_unsigned, read_degrees, positive, negative}
use Rattle.scan.specs.Fields.{field_from, field_end, stands_at, ends_at, run, number_as, run_as, places_of, degrees_as, signed_as}
use Rattle.scan.proofs.RunLaws.{run-digits, run-right, run-wrong, check-refused, said-below}
use Rattle.scan.proofs.FieldLaws.{stands-yes, stands-no, FirstNot, first-not, field-first, field-run, field-other, split-open, split-end, split-on, split-wrong, run_decimal}

-- ---- the places

module _ (whole : ℕ) (s : List ℕ) where
  places-size : (length s ≡ 7 → ⊥) → places_of whole s ≡ Err (refusal 20)
  unfolding places_of
  places-size h = check-failed (eqb (length s) 7) 20 _ _ (ne_eqb (length s) 7 h)

  places-other : all_digits s ≡ false → places_of whole s ≡ Err (refusal 20)
  unfolding places_of
  places-other e = ap (λ (r : Answer ℕ). check (eqb (length s) 7) 20 r) (check-failed (all_digits s) 20 _ _ e) ∙ check-refused (eqb (length s) 7)

  places-good : length s ≡ 7 → all_digits s ≡ true → places_of whole s ≡ Ok (whole * 10 ^ 7 + said s)
  unfolding places_of
  places-good e d = check-passed (eqb (length s) 7) 20 _ _ (eq-eqb (length s) 7 e) ∙ check-passed (all_digits s) 20 _ _ d

module _ (t : List ℕ) (at whole : ℕ) (inside : at ≤ length t) where
  abbrev field_places : Option (ℕ × ℕ)
  field_places = number_as (field_end t at) (places_of whole (field_from t at))

  no-places : places_of whole (field_from t at) ≡ Err (refusal 20) → None ≡ field_places
  unfolding number_as
  no-places e = ap (number_as (field_end t at)) (sym e)

  -- by where the digits end
  either : (ends_at t (at + length (run (drop at t))) ≡ true → (length (run (drop at t)) ≡ 7 → ⊥)) → None ≡ field_places
  either h = go (ends_at t (at + length (run (drop at t)))) refl
    where
      go : (b : Bool) → ends_at t (at + length (run (drop at t))) ≡ b → None ≡ field_places
      go true k = no-places (places-size whole (field_from t at) (λ e. h k (sym (ap length (field-run t at inside k)) ∙ e)))
      go false k = no-places (places-other whole (field_from t at) (field-other t at inside k))

  -- seven digits fit 64 bits
  pub places-over : None ≡ run_as at (run (drop at t)) → None ≡ field_places
  places-over e =
      either (λ k seven.
      let below = subst (λ (n : ℕ). said (run (drop at t)) < 10 ^ n) seven (said-below (run (drop at t)) (run-digits (drop at t))) in
      omega (arith, run-wrong t at e, below))

  module _ {n end : ℕ} (e : Some (n, end) ≡ run_as at (run (drop at t))) where
    pub places-short : (end ≡ at + 7 → ⊥) → None ≡ field_places
    places-short h = either (λ k seven. h (omega (arith, (run-right t at e).1, seven)))

    pub places-open : ends_at t end ≡ false → None ≡ field_places
    places-open k = no-places (places-other whole (field_from t at) (field-other t at inside (ap (ends_at t) (sym (run-right t at e).1) ∙ k)))

    pub places-read : end ≡ at + 7 → ends_at t end ≡ true → Some (whole * 10000000 + n, end) ≡ field_places
    unfolding number_as
    places-read seven k =
        let r = run-right t at e in
        let same = field-run t at inside (ap (ends_at t) (sym r.1) ∙ k) in
        let reads = places-good whole (field_from t at) (ap length same ∙ omega (arith, r.1, seven)) (ap all_digits same ∙ run-digits (drop at t)) in
        let value : whole * 10000000 + n ≡ whole * 10 ^ 7 + said (field_from t at) = ap (λ (m : ℕ). whole * 10000000 + m) (r.0 ∙ ap said (sym same)) in
        let place : end ≡ field_end t at = r.1 ∙ ap (λ (s : List ℕ). at + length s) (sym same) in
        (λ j. Some (value j, place j)) ∙ ap (number_as (field_end t at)) (sym reads)

    -- seven digits are below 10 ^ 7
    pub places-small : end ≡ at + 7 → n < 10 ^ 7
    places-small seven =
        let r = run-right t at e in
        let size : length (run (drop at t)) ≡ 7 = omega (arith, r.1, seven) in
        let below = subst (λ (k : ℕ). said (run (drop at t)) < 10 ^ k) size (said-below (run (drop at t)) (run-digits (drop at t))) in
        omega (arith, r.0, below)

-- ---- whole degrees and places

module _ (t : List ℕ) (at : ℕ) (inside : at ≤ length t) where
  abbrev field_unsigned : Option (ℕ × ℕ)
  field_unsigned = number_as (field_end t at) (read_unsigned (field_from t at))

  no_number : (n : ℕ) → places_of n [] ≡ Err (refusal 20)
  no_number n = places-size n [] (λ e. omega (arith, e))

  not-unsigned : read_unsigned (field_from t at) ≡ Err (refusal 20) → None ≡ field_unsigned
  unfolding number_as
  not-unsigned e = ap (number_as (field_end t at)) (sym e)

  pub unsigned-wrong : None ≡ run_decimal t at 214 → None ≡ field_unsigned
  unfolding read_unsigned places_of
  unsigned-wrong e = not-unsigned (split-wrong t at inside 46 refl refl 214 places_of no_number e)

  module _ {whole point : ℕ} (e : Some (whole, point) ≡ run_decimal t at 214) (is : point ≡ at + length (run (drop at t))) where
    pub unsigned-open : stands_at t point 46 ≡ false → None ≡ field_unsigned
    unfolding read_unsigned places_of
    unsigned-open h =
        not-unsigned (split-open t at inside 46 refl refl 214 places_of no_number (subst (λ (n : ℕ). n < length t → get_or t n 0 ≡ 46 → ⊥) is (stands-no t point 46 h)))

    pub unsigned-on : stands_at t point 46 ≡ true → number_as (field_end t (point + 1)) (places_of whole (field_from t (point + 1))) ≡ field_unsigned
    unfolding read_unsigned places_of
    unsigned-on h =
        let y = stands-yes t point 46 h in
        let i = subst (λ (n : ℕ). n < length t) is y.0 in
        let j = subst (λ (n : ℕ). get_or t n 0 ≡ 46) is y.1 in
        ap (λ (n : ℕ). number_as (field_end t (n + 1)) (places_of whole (field_from t (n + 1)))) is
        ∙ ap (λ (n : ℕ). number_as n (places_of whole (field_from t (at + length (run (drop at t)) + 1)))) (sym (split-end t at inside 46 refl refl 214 places_of no_number i j))
        ∙ ap (number_as (field_end t at)) (sym (split-on t at inside 46 refl refl 214 places_of no_number i j e))

-- ---- the sign

-- what `try_from` answers
module _ {E : Type 0} (n end : ℕ) where
  pub positive-read : (r : Result ℤ E) {z : ℤ} → OkIff r (SFits w32 (pos n)) (pos n) → result_ok r ≡ Some z → Some (to_z w32 (of_z w32 z), end) ≡ signed_as positive (Some (n, end))
  unfolding signed_as degrees_as check_at
  positive-read (Ok x) {z} k e =
      let value : z ≡ pos n = sym (same_Some _ _ e) ∙ k.1 in
      let h : n ≤ 2 ^ 31 - 1 = omega (arith, k.0.sfits) in
      ap (λ (y : ℤ). Some (to_z w32 (of_z w32 y), end)) value ∙ ap (λ (y : ℤ). Some (y, end)) (to_z-of_z k.0) ∙ sym (simp (le-leb n (2 ^ 31 - 1) h))
  positive-read (Err x) k e = absurd (none-some _ e)

  pub positive-over : (r : Result ℤ E) → OkIff r (SFits w32 (pos n)) (pos n) → result_ok r ≡ None → None ≡ signed_as positive (Some (n, end))
  unfolding signed_as degrees_as check_at
  positive-over (Ok x) k e = absurd (none-some _ (sym e))
  positive-over (Err x) k e = go (leb n (2 ^ 31 - 1)) refl
    where
      go : (b : Bool) → leb n (2 ^ 31 - 1) ≡ b → None ≡ degrees_as end (pick b (Ok (pos n)) (Err (refusal 20)))
      go true h = absurd (k (record { sfits = omega (arith, leb-true n (2 ^ 31 - 1) h) }))
      go false h = refl

module _ (n end : ℕ) where
  pub negative-read : 1 ≤ n → n ≤ 2 ^ 31 → Some (to_z w32 (of_z w32 (to_z w64 (of_z w64 (pos 0 -ℤ to_z w64 n)))), end) ≡ signed_as negative (Some (n, end))
  unfolding signed_as degrees_as check_at
  negative-read some h =
      let small : n < 2 ^ 63 = omega (arith, h) in
      let wide : n - 1 < 2 ^ 63 = omega (arith, h) in
      let narrow : n - 1 < 2 ^ 31 = omega (arith, some, h) in
      let less : pos 0 -ℤ to_z w64 n ≡ negsuc (n - 1) = ap (λ (y : ℤ). pos 0 -ℤ y) (to_z_pos w64 small) ∙ minus n some in
      ap (λ (y : ℤ). Some (to_z w32 (of_z w32 (to_z w64 (of_z w64 y))), end)) less
      ∙ ap (λ (y : ℤ). Some (to_z w32 (of_z w32 y), end)) (to_z-of_z {w = w64} {z = negsuc (n - 1)} (record { sfits = wide }))
      ∙ ap (λ (y : ℤ). Some (y, end)) (to_z-of_z {w = w32} {z = negsuc (n - 1)} (record { sfits = narrow }))
      ∙ sym (simp (le-leb 1 n some, le-leb n (2 ^ 31) h))
    where
      minus : (n : ℕ) → 1 ≤ n → pos 0 -ℤ pos n ≡ negsuc (n - 1)
      minus zero h = absurd (omega (arith, h))
      minus (suc k) h = let some : 0 < suc k = omega arith in simp (lt-ltb 0 (suc k) some)

  pub negative-none : n < 1 → None ≡ signed_as negative (Some (n, end))
  unfolding signed_as degrees_as check_at
  negative-none h = sym (simp (lt-leb 1 n h))

  pub negative-over : 1 ≤ n → 2 ^ 31 < n → None ≡ signed_as negative (Some (n, end))
  unfolding signed_as degrees_as check_at
  negative-over some h = sym (simp (le-leb 1 n some, lt-leb n (2 ^ 31) h))

no_sign : (s : List ℕ) → FirstNot 45 s → on_accepted (read_unsigned s) positive ≡ read_degrees s
unfolding read_degrees on_accepted read_unsigned before behind read_decimal no_spare_zero check_at
no_sign [] h = refl
no_sign (c ∷ s) h = sym (pick-false (eqb c 45) _ _ h)

-- what is read behind the sign, with its sign
signed-read : (end : ℕ) (r : Answer ℕ) (f : ℕ → Answer ℤ) → signed_as f (number_as end r) ≡ degrees_as end (on_accepted r f)
unfolding signed_as number_as on_accepted degrees_as
signed-read end (Ok n) f = refl
signed-read end (Err x) f = refl

module _ (t : List ℕ) (at : ℕ) (inside : at ≤ length t) where
  abbrev field_degrees : Option (ℤ × ℕ)
  field_degrees = degrees_as (field_end t at) (read_degrees (field_from t at))

  pub degrees-minus : {m : Option (ℕ × ℕ)} {r : Option (ℤ × ℕ)} → stands_at t at 45 ≡ true → m ≡ number_as (field_end t (at + 1)) (read_unsigned (field_from t (at + 1))) → r ≡ signed_as negative m → r ≡ field_degrees
  unfolding read_degrees
  degrees-minus {m} {r} s e k =
      let f = field-first t at 45 refl s in
      k
      ∙ ap (signed_as negative) e
      ∙ signed-read (field_end t (at + 1)) (read_unsigned (field_from t (at + 1))) negative
      ∙ ap (λ (n : ℕ). degrees_as n (on_accepted (read_unsigned (field_from t (at + 1))) negative)) f.1
      ∙ ap (λ (s : List ℕ). degrees_as (field_end t at) (read_degrees s)) (sym f.0)

  pub degrees-plain : {m : Option (ℕ × ℕ)} {r : Option (ℤ × ℕ)} → stands_at t at 45 ≡ false → m ≡ number_as (field_end t at) (read_unsigned (field_from t at)) → r ≡ signed_as positive m → r ≡ field_degrees
  degrees-plain {m} {r} s e k =
      k ∙ ap (signed_as positive) e ∙ signed-read (field_end t at) (read_unsigned (field_from t at)) positive ∙ ap (degrees_as (field_end t at)) (no_sign (field_from t at) (first-not t at inside 45 s))
