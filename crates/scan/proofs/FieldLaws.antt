-- Fields that begin with digits: the digits up to the byte that stops them.
use Rattle.std.specs.Prelude.{Err, Ok, Option, Some, None}
use Rattle.std.proofs.lemmas.Option.{some_pair_parts}
use Rattle.std.specs.Option.{option_eq, option_map, unwrap_or, is_some}
use denote.Bor.{Bor}
use Prim.Native.Nat.{ℕ, suc, ◌+◌, ◌^◌, ◌≤◌, ◌<◌}
use native.Mathlib.Nat.{add-zero, not-suc-le-zero, le_of_suc-le-suc}
use native.Mathlib.Omega.{arith}
use mathlib.Core.Path.{◌≡◌, refl, sym, ap, ◌∙◌}
use mathlib.Core.Bool.{Bool, true, false}
use mathlib.Core.List.{List, [], ◌∷◌}
use lib.ListN.{length, drop, get_or, length-drop, drop_of_length-le}
use lib.Seq.{get_or-drop, drop-drop, drop-cons}
use lib.Dec.{eqb, leb, ltb}
use borrow.Author.Tests.{ltb-true, lt-ltb, leb-true, leb-false, ne_eqb, eq-eqb, eqb-true, eqb-false}
use Rattle.wire.specs.Numbers.{pick}
use Rattle.wire.specs.Answers.{Answer, refusal, on_accepted, check_at}
use Rattle.wire.proofs.Accepting.{on_accepted-passed, on_accepted-refused, check-accepted, both_true, pick_true}
use Rattle.text.specs.Hex.{among}
use Rattle.line.specs.Pieces.{before, behind}
use Rattle.line.specs.LineReader.{all_digits, said, no_spare_zero, read_decimal}
use Rattle.scan.specs.Fields.{field_from, field_end, stands_at, ends_at, run, number_as, run_as}
use Rattle.scan.proofs.RunLaws.{run-digits, run-right, run-wrong, decimal-over, decimal-spare, decimal-other, decimal-good}

no_digit : (b c : ℕ) → among 48 57 b ≡ true → among 48 57 c ≡ false → eqb b c ≡ false
no_digit b c e f = ne_eqb b c (λ same. let z : true ≡ false = sym e ∙ ap (among 48 57) same ∙ f in absurd (let y : ◌≡◌ {A = ℕ} 0 1 = cc in omega arith))

-- ---- a byte in its place

-- what `get` answers, compared with the byte
pub stands-got : (t : List ℕ) (at : ℕ) (g : Option (Bor ℕ)) (c : Bor ℕ) → is_some g ≡ ltb at (length t) → unwrap_or (option_map (λ x. x.now) g) 0 ≡ get_or t at 0
    → option_eq (λ x y. eqb x.now y.now) g (Some c) ≡ stands_at t at c.now
unfolding stands_at
stands-got t at None c s v = simp (sym s)
stands-got t at (Some x) c s v = simp (sym s, sym v)

pub stands-yes : (t : List ℕ) (at b : ℕ) → stands_at t at b ≡ true → (at < length t) × (get_or t at 0 ≡ b)
unfolding stands_at
stands-yes t at b e =
    let k = both_true (ltb at (length t)) (eqb (get_or t at 0) b) e in
    (ltb-true at (length t) k.0, eqb-true (get_or t at 0) b k.1)

pub stands-no : (t : List ℕ) (at b : ℕ) → stands_at t at b ≡ false → at < length t → get_or t at 0 ≡ b → ⊥
unfolding stands_at
stands-no t at b e h k = absurd (let z : true ≡ false = sym (simp (lt-ltb at (length t) h) (eq-eqb (get_or t at 0) b k)) ∙ e in let y : ◌≡◌ {A = ℕ} 0 1 = cc in omega arith)

-- a field that begins otherwise
abbrev pub FirstNot : ℕ → List ℕ → Type 0
FirstNot b [] = Unit {0}
FirstNot b (c ∷ s) = eqb c b ≡ false

pub first-not : (t : List ℕ) (at : ℕ) → at ≤ length t → (b : ℕ) → stands_at t at b ≡ false → FirstNot b (field_from t at)
unfolding before stands_at
first-not t at h b e = go (drop at t) refl
  where
    go : (s : List ℕ) → drop at t ≡ s → FirstNot b (before 44 s)
    go [] k = tt
    go (c ∷ s) k =
        let some : at < length t = omega (arith, length-drop at t, ap length k) in
        let first : get_or t at 0 ≡ c = ap (λ (i : ℕ). get_or t i 0) (sym (add-zero at)) ∙ sym (get_or-drop at t 0 0) ∙ ap (λ (l : List ℕ). get_or l 0 0) k in
        let not : eqb c b ≡ false = ap (λ (x : ℕ). eqb x b) (sym first) ∙ sym (pick_true (ltb at (length t)) (eqb (get_or t at 0) b) false (lt-ltb at (length t) some)) ∙ e in
        by (eqb c 44) refl not
      where
        by : (z : Bool) → eqb c 44 ≡ z → eqb c b ≡ false → FirstNot b (pick z [] (c ∷ before 44 s))
        by true i n = tt
        by false i n = n

-- ---- a field by its first byte

pub field-behind : (t : List ℕ) (i : ℕ) → length t ≤ i → field_from t i ≡ []
unfolding before
field-behind t i h = ap (before 44) (drop_of_length-le t {i = i} h)

module _ (t : List ℕ) (i : ℕ) (inside : i < length t) where
  first : drop i t ≡ get_or t i 0 ∷ drop (i + 1) t
  first = let next : suc i ≡ i + 1 = omega arith in drop-cons t i 0 inside ∙ ap (λ (n : ℕ). get_or t i 0 ∷ drop n t) next

  pub field-comma : get_or t i 0 ≡ 44 → field_from t i ≡ []
  unfolding before
  field-comma e = ap (before 44) first ∙ simp (eq-eqb (get_or t i 0) 44 e)

  pub field-byte : eqb (get_or t i 0) 44 ≡ false → field_from t i ≡ get_or t i 0 ∷ field_from t (i + 1)
  unfolding before
  field-byte e = ap (before 44) first ∙ simp e

-- where a field ends, and where it does not
pub ends-nothing : (t : List ℕ) (i : ℕ) → ends_at t i ≡ true → field_from t i ≡ []
unfolding ends_at
ends-nothing t i e = go (leb (length t) i) refl e
  where
    go : (b : Bool) → leb (length t) i ≡ b → pick b true (eqb (get_or t i 0) 44) ≡ true → field_from t i ≡ []
    go true l e = field-behind t i (leb-true (length t) i l)
    go false l e = field-comma t i (leb-false (length t) i l) (eqb-true (get_or t i 0) 44 e)

pub ends-not : (t : List ℕ) (i : ℕ) → ends_at t i ≡ false → (i < length t) × (eqb (get_or t i 0) 44 ≡ false)
unfolding ends_at
ends-not t i e = go (leb (length t) i) refl e
  where
    go : (b : Bool) → leb (length t) i ≡ b → pick b true (eqb (get_or t i 0) 44) ≡ false → (i < length t) × (eqb (get_or t i 0) 44 ≡ false)
    go true l e = absurd (let z : ◌≡◌ {A = ℕ} 0 1 = cc in omega arith)
    go false l e = (leb-false (length t) i l, e)

-- the same where it is known
pub field-first : (t : List ℕ) (at b : ℕ) → eqb b 44 ≡ false → stands_at t at b ≡ true → (field_from t at ≡ b ∷ field_from t (at + 1)) × (field_end t (at + 1) ≡ field_end t at)
field-first t at b other s =
    let y = stands-yes t at b s in
    let first = field-byte t at y.0 (ap (λ (c : ℕ). eqb c 44) y.1 ∙ other) ∙ ap (λ (c : ℕ). c ∷ field_from t (at + 1)) y.1 in
    (first, omega (arith, ap length first))

-- ---- a byte that stops digits

module _ (c : ℕ) (no : among 48 57 c ≡ false) where
  -- the text is all digits
  pub run_ends : (s : List ℕ) → length s ≤ length (run s) → before c s ≡ run s
  unfolding run before
  run_ends [] h = refl
  run_ends (b ∷ s) h = go (among 48 57 b) refl h (run_ends s)
    where
      go : (t : Bool) → among 48 57 b ≡ t → suc (length s) ≤ length (pick t (b ∷ run s) []) → (length s ≤ length (run s) → before c s ≡ run s) → pick (eqb b c) [] (b ∷ before c s) ≡ pick t (b ∷ run s) []
      go true e k r = simp (no_digit b c e no) (ap (λ (l : List ℕ). b ∷ l) (r (le_of_suc-le-suc k)))
      go false e k r = absurd (not-suc-le-zero k)

  -- behind the digits stands the byte
  pub run-meets : (s : List ℕ) → length (run s) < length s → get_or s (length (run s)) 0 ≡ c → before c s ≡ run s
  unfolding run before
  run-meets [] h e = refl
  run-meets (b ∷ s) h e = go (among 48 57 b) refl h e (run-meets s)
    where
      go : (t : Bool) → among 48 57 b ≡ t → length (pick t (b ∷ run s) []) < suc (length s) → get_or (b ∷ s) (length (pick t (b ∷ run s) [])) 0 ≡ c
          → (length (run s) < length s → get_or s (length (run s)) 0 ≡ c → before c s ≡ run s) → pick (eqb b c) [] (b ∷ before c s) ≡ pick t (b ∷ run s) []
      go true i k e r = simp (no_digit b c i no) (ap (λ (l : List ℕ). b ∷ l) (r (le_of_suc-le-suc k) e))
      go false i k e r = simp (eq-eqb b c e)

  -- behind the digits stands another
  pub run-misses : (s : List ℕ) → length (run s) < length s → (get_or s (length (run s)) 0 ≡ c → ⊥) → all_digits (before c s) ≡ false
  unfolding run before all_digits
  run-misses [] h e = absurd (not-suc-le-zero h)
  run-misses (b ∷ s) h e = go (among 48 57 b) refl h e (run-misses s)
    where
      go : (t : Bool) → among 48 57 b ≡ t → length (pick t (b ∷ run s) []) < suc (length s) → (get_or (b ∷ s) (length (pick t (b ∷ run s) [])) 0 ≡ c → ⊥)
          → (length (run s) < length s → (get_or s (length (run s)) 0 ≡ c → ⊥) → all_digits (before c s) ≡ false) → all_digits (pick (eqb b c) [] (b ∷ before c s)) ≡ false
      go true i k e r = simp (no_digit b c i no, i) (r (le_of_suc-le-suc k) e)
      go false i k e r = simp (ne_eqb b c e, i)

  -- ---- in a field, before whose end it stands

  module _ (other : eqb c 44 ≡ false) where
    pub record Stops (s : List ℕ) : Type 0 where
      pub first : before c (before 44 s) ≡ run s
      pub second : behind c (before 44 s) ≡ before 44 (drop (suc (length (run s))) s)
      pub size : length (before 44 s) ≡ suc (length (run s) + length (before 44 (drop (suc (length (run s))) s)))

    pub run-stops : (s : List ℕ) → length (run s) < length s → get_or s (length (run s)) 0 ≡ c → Stops s
    unfolding run before behind
    run-stops [] h e = absurd (not-suc-le-zero h)
    run-stops (b ∷ s) h e = go (among 48 57 b) refl h e (run-stops s)
      where
        go : (t : Bool) → among 48 57 b ≡ t → length (pick t (b ∷ run s) []) < suc (length s) → get_or (b ∷ s) (length (pick t (b ∷ run s) [])) 0 ≡ c
            → (length (run s) < length s → get_or s (length (run s)) 0 ≡ c → Stops s) → Stops (b ∷ s)
        go true i k e rest =
            let r = rest (le_of_suc-le-suc k) e in
            let comma = no_digit b 44 i refl in
            let this = no_digit b c i no in
            record {
              first = simp (i, comma, this) (ap (λ (l : List ℕ). b ∷ l) r.first);
              second = simp (i, comma, this) r.second;
              size = simp (i, comma) (omega (arith, r.size));
            }
        go false i k e rest =
            let comma : eqb b 44 ≡ false = ap (λ (x : ℕ). eqb x 44) e ∙ other in
            let this = eq-eqb b c e in
            record {
              first = simp (i, comma, this);
              second = simp (i, comma, this);
              size = simp (i, comma) (omega arith);
            }

    -- it does not stop the digits: the text before it has another byte, or there is nothing behind it
    pub run-passes : {P : Type 0} (s : List ℕ) → (length (run s) < length s → get_or s (length (run s)) 0 ≡ c → ⊥)
        → (all_digits (before c (before 44 s)) ≡ false → P) → (behind c (before 44 s) ≡ [] → P) → P
    unfolding run before behind all_digits
    run-passes [] h f g = g refl
    run-passes {P = P} (b ∷ s) h f g = go (among 48 57 b) refl h (run-passes {P = P} s)
      where
        last : (t : Bool) → eqb b 44 ≡ t → among 48 57 b ≡ false → eqb b c ≡ false → P
        last true e i d = g (simp e)
        last false e i d = f (simp (e, d, i))

        go : (t : Bool) → among 48 57 b ≡ t → (length (pick t (b ∷ run s) []) < suc (length s) → get_or (b ∷ s) (length (pick t (b ∷ run s) [])) 0 ≡ c → ⊥)
            → ((length (run s) < length s → get_or s (length (run s)) 0 ≡ c → ⊥) → (all_digits (before c (before 44 s)) ≡ false → P) → (behind c (before 44 s) ≡ [] → P) → P) → P
        go true i k rest =
            let comma = no_digit b 44 i refl in
            let this = no_digit b c i no in
            rest (λ j. k (omega (arith, j))) (λ e. f (simp (comma, this, i) e)) (λ e. g (simp (comma, this) e))
        go false i k rest = last (eqb b 44) refl i (ne_eqb b c (k (omega arith)))

-- ---- the first of the digits

pub run_short : (s : List ℕ) → length (run s) ≤ length s
unfolding run
run_short [] = omega arith
run_short (b ∷ s) = go (among 48 57 b) (run_short s)
  where
    go : (t : Bool) → length (run s) ≤ length s → length (pick t (b ∷ run s) []) ≤ suc (length s)
    go true h = omega (arith, h)
    go false h = omega arith

none-spare : (s : List ℕ) → length (run s) ≤ 0 → no_spare_zero (run s) ≡ false
unfolding no_spare_zero
none-spare s h = go (run s) h
  where
    go : (l : List ℕ) → length l ≤ 0 → no_spare_zero l ≡ false
    go [] h = refl
    go (c ∷ l) h = absurd (not-suc-le-zero h)

first-spare : (s : List ℕ) → get_or s 0 0 ≡ 48 → 1 < length (run s) → no_spare_zero (run s) ≡ false
unfolding run no_spare_zero
first-spare [] e h = absurd (not-suc-le-zero h)
first-spare (b ∷ s) e h = go (among 48 57 b) h
  where
    go : (t : Bool) → 1 < length (pick t (b ∷ run s) []) → no_spare_zero (pick t (b ∷ run s) []) ≡ false
    go true h = simp (eq-eqb b 48 e) (ne_eqb (length (run s)) 0 (λ z. omega (arith, h, z)))
    go false h = absurd (not-suc-le-zero h)

first-right : (s : List ℕ) → 1 ≤ length (run s) → (get_or s 0 0 ≡ 48 → length (run s) ≤ 1) → no_spare_zero (run s) ≡ true
unfolding run no_spare_zero
first-right [] h k = absurd (not-suc-le-zero h)
first-right (b ∷ s) h k = go (among 48 57 b) (eqb b 48) refl h k
  where
    go : (t z : Bool) → eqb b 48 ≡ z → 1 ≤ length (pick t (b ∷ run s) []) → (b ≡ 48 → length (pick t (b ∷ run s) []) ≤ 1) → no_spare_zero (pick t (b ∷ run s) []) ≡ true
    go true true e h k = let one = k (eqb-true b 48 e) in simp e (eq-eqb (length (run s)) 0 (omega (arith, one)))
    go true false e h k = simp e
    go false z e h k = absurd (not-suc-le-zero h)

-- ---- a number that is digits from `at` on

module _ (t : List ℕ) (at most : ℕ) where
  abbrev pub run_decimal : Option (ℕ × ℕ)
  run_decimal = number_as (at + length (run (drop at t))) (read_decimal most (run (drop at t)))

  not-read : read_decimal most (run (drop at t)) ≡ Err (refusal 20) → None ≡ run_decimal
  unfolding number_as
  not-read e = ap (number_as (at + length (run (drop at t)))) (sym e)

  first-at : at ≤ length t → get_or (drop at t) 0 0 ≡ get_or t at 0
  first-at h = get_or-drop at t 0 0 ∙ ap (λ (i : ℕ). get_or t i 0) (omega arith)

  pub at-over : most < 2 ^ 64 → None ≡ run_as at (run (drop at t)) → None ≡ run_decimal
  at-over m e = not-read (decimal-over most _ (omega (arith, run-wrong t at e, m)))

  module _ {n end : ℕ} (e : Some (n, end) ≡ run_as at (run (drop at t))) where
    pub at_none : end ≤ at → None ≡ run_decimal
    at_none h = not-read (decimal-spare most _ (none-spare (drop at t) (omega (arith, (run-right t at e).1))))

    pub at-large : most < n → None ≡ run_decimal
    at-large h = not-read (decimal-over most _ (omega (arith, (run-right t at e).0, h)))

    pub at-inside : at ≤ length t → end ≤ length t
    at-inside h = omega (arith, (run-right t at e).1, run_short (drop at t), length-drop at t)

    pub at-spare : at ≤ length t → get_or t at 0 ≡ 48 → at + 1 < end → None ≡ run_decimal
    at-spare i z h = not-read (decimal-spare most _ (first-spare (drop at t) (first-at i ∙ z) (omega (arith, (run-right t at e).1))))

    pub at-good : at ≤ length t → at < end → n ≤ most → (get_or t at 0 ≡ 48 → end ≤ at + 1) → Some (n, end) ≡ run_decimal
    unfolding number_as
    at-good i some small spare =
        let r = run-right t at e in
        let tight = first-right (drop at t) (omega (arith, r.1)) (λ z. let one = spare (sym (first-at i) ∙ z) in omega (arith, r.1, one)) in
        let reads = decimal-good most (run (drop at t)) tight (run-digits (drop at t)) (omega (arith, r.0)) in
        (λ j. Some (r.0 j, r.1 j)) ∙ ap (number_as (at + length (run (drop at t)))) (sym reads)

-- ---- a field that is a number

-- where the digits end, the field does
pub field-run : (t : List ℕ) (at : ℕ) → at ≤ length t → ends_at t (at + length (run (drop at t))) ≡ true → field_from t at ≡ run (drop at t)
unfolding ends_at
field-run t at h e = go (leb (length t) (at + length (run (drop at t)))) refl e
  where
    go : (b : Bool) → leb (length t) (at + length (run (drop at t))) ≡ b → pick b true (eqb (get_or t (at + length (run (drop at t))) 0) 44) ≡ true → field_from t at ≡ run (drop at t)
    go true l e = run_ends 44 refl (drop at t) (omega (arith, leb-true (length t) (at + length (run (drop at t))) l, length-drop at t))
    go false l e =
        run-meets 44 refl (drop at t) (omega (arith, leb-false (length t) (at + length (run (drop at t))) l, length-drop at t))
        (get_or-drop at t (length (run (drop at t))) 0 ∙ eqb-true _ 44 e)

pub field-other : (t : List ℕ) (at : ℕ) → at ≤ length t → ends_at t (at + length (run (drop at t))) ≡ false → all_digits (field_from t at) ≡ false
unfolding ends_at
field-other t at h e = go (leb (length t) (at + length (run (drop at t)))) refl e
  where
    go : (b : Bool) → leb (length t) (at + length (run (drop at t))) ≡ b → pick b true (eqb (get_or t (at + length (run (drop at t))) 0) 44) ≡ false → all_digits (field_from t at) ≡ false
    go true l e = absurd (let z : ◌≡◌ {A = ℕ} 0 1 = cc in omega arith)
    go false l e =
        run-misses 44 refl (drop at t) (omega (arith, leb-false (length t) (at + length (run (drop at t))) l, length-drop at t))
        (λ z. eqb-false _ 44 e (sym (get_or-drop at t (length (run (drop at t))) 0) ∙ z))

module _ (t : List ℕ) (at most : ℕ) (inside : at ≤ length t) where
  abbrev field_decimal : Option (ℕ × ℕ)
  field_decimal = number_as (field_end t at) (read_decimal most (field_from t at))

  unread : read_decimal most (field_from t at) ≡ Err (refusal 20) → None ≡ field_decimal
  unfolding number_as
  unread e = ap (number_as (field_end t at)) (sym e)

  -- the digits are no number
  pub field-wrong : None ≡ run_decimal t at most → None ≡ field_decimal
  field-wrong e = go (ends_at t (at + length (run (drop at t)))) refl
    where
      go : (b : Bool) → ends_at t (at + length (run (drop at t))) ≡ b → None ≡ field_decimal
      go true k = e ∙ ap (λ (s : List ℕ). number_as (at + length s) (read_decimal most s)) (sym (field-run t at inside k))
      go false k = unread (decimal-other most (field_from t at) (field-other t at inside k))

  module _ {n end : ℕ} (e : Some (n, end) ≡ run_decimal t at most) (is : end ≡ at + length (run (drop at t))) where
    pub field-good : ends_at t end ≡ true → Some (n, end) ≡ field_decimal
    field-good k = e ∙ ap (λ (s : List ℕ). number_as (at + length s) (read_decimal most s)) (sym (field-run t at inside (ap (ends_at t) (sym is) ∙ k)))

    pub field_open : ends_at t end ≡ false → None ≡ field_decimal
    field_open k = unread (decimal-other most (field_from t at) (field-other t at inside (ap (ends_at t) (sym is) ∙ k)))

-- what was read, and where it ends
pub number-told : (end : ℕ) (r : Answer ℕ) {n next : ℕ} → Some (n, next) ≡ number_as end r → (r ≡ Ok n) × (next ≡ end)
unfolding number_as
number-told end (Ok m) e = let k = some_pair_parts _ _ _ _ e in (ap Ok (sym k.0), k.1)
number-told end (Err x) e = absurd (let z : ◌≡◌ {A = ℕ} 0 1 = cc in omega arith)

-- no number is above its limit
pub decimal-most : (most : ℕ) (s : List ℕ) {n : ℕ} → read_decimal most s ≡ Ok n → n ≤ most
unfolding read_decimal
decimal-most most s {n} e =
    let a = check-accepted (no_spare_zero s) 20 _ _ e in
    let b = check-accepted (all_digits s) 20 _ _ a.1 in
    let c = check-accepted (leb (said s) most) 20 _ _ b.1 in
    let same : said s ≡ n = cc c.1 in
    omega (arith, leb-true (said s) most c.0, same)

-- ---- a field that is digits, a byte that stops them, and more

-- no number, so 20
pub number-wrong : (end most : ℕ) (s : List ℕ) → None ≡ number_as end (read_decimal most s) → read_decimal most s ≡ Err (refusal 20)
unfolding number_as read_decimal check_at
number-wrong end most s e = go (no_spare_zero s) (all_digits s) (leb (said s) most) e
  where
    go : (a b c : Bool) → None ≡ number_as end (pick a (pick b (pick c (Ok (said s)) (Err (refusal 20))) (Err (refusal 20))) (Err (refusal 20)))
        → pick a (pick b (pick c (Ok (said s)) (Err (refusal 20))) (Err (refusal 20))) (Err (refusal 20)) ≡ Err (refusal 20)
    go true true true e = absurd (let z : ◌≡◌ {A = ℕ} 0 1 = cc in omega arith)
    go true true false e = refl
    go true false c e = refl
    go false b c e = refl

module _ (t : List ℕ) (at : ℕ) (inside : at ≤ length t) (c : ℕ) (no : among 48 57 c ≡ false) (other : eqb c 44 ≡ false) where
  abbrev run_end : ℕ
  run_end = at + length (run (drop at t))

  -- the digits end at the byte, or they do not
  by-stop : {P : Type 0} → (run_end < length t → get_or t run_end 0 ≡ c → P) → ((run_end < length t → get_or t run_end 0 ≡ c → ⊥) → P) → P
  by-stop {P = P} f g = go (leb (length t) run_end) (eqb (get_or t run_end 0) c) refl refl
    where
      go : (a b : Bool) → leb (length t) run_end ≡ a → eqb (get_or t run_end 0) c ≡ b → P
      go true b l e = g (λ h k. omega (arith, leb-true (length t) run_end l, h))
      go false true l e = f (leb-false (length t) run_end l) (eqb-true (get_or t run_end 0) c e)
      go false false l e = g (λ h k. eqb-false (get_or t run_end 0) c e k)

  module _ {B : Type 0} (most : ℕ) (f : ℕ → List ℕ → Answer B) (nothing : (n : ℕ) → f n [] ≡ Err (refusal 20)) where
    abbrev split_field : Answer B
    split_field = on_accepted (read_decimal most (before c (field_from t at))) (λ n. f n (behind c (field_from t at)))

    -- nothing behind it
    behind-none : behind c (field_from t at) ≡ [] → split_field ≡ Err (refusal 20)
    unfolding on_accepted read_decimal check_at
    behind-none e = go (no_spare_zero s) (all_digits s) (leb (said s) most)
      where
        s : List ℕ
        s = before c (field_from t at)

        go : (a b d : Bool) → on_accepted (pick a (pick b (pick d (Ok (said s)) (Err (refusal 20))) (Err (refusal 20))) (Err (refusal 20))) (λ n. f n (behind c (field_from t at)))
            ≡ Err (refusal 20)
        go true true true = ap (f (said s)) e ∙ nothing (said s)
        go true true false = refl
        go true false d = refl
        go false b d = refl

    pub split-open : (run_end < length t → get_or t run_end 0 ≡ c → ⊥) → split_field ≡ Err (refusal 20)
    split-open h =
        run-passes c no other (drop at t) (λ i k. h (omega (arith, i, length-drop at t)) (sym (get_or-drop at t (length (run (drop at t))) 0) ∙ k))
        (λ e. on_accepted-refused (read_decimal most (before c (field_from t at))) _ (decimal-other most (before c (field_from t at)) e))
        behind-none

    module _ (h : run_end < length t) (k : get_or t run_end 0 ≡ c) where
      stops : Stops c no other (drop at t)
      stops = run-stops c no other (drop at t) (omega (arith, h, length-drop at t)) (get_or-drop at t (length (run (drop at t))) 0 ∙ k)

      next : before 44 (drop (suc (length (run (drop at t)))) (drop at t)) ≡ field_from t (run_end + 1)
      next =
          let place : at + suc (length (run (drop at t))) ≡ run_end + 1 = omega arith in
          ap (before 44) (drop-drop (suc (length (run (drop at t)))) at t ∙ ap (λ (i : ℕ). drop i t) place)

      pub split-first : before c (field_from t at) ≡ run (drop at t)
      split-first = stops.first

      pub split-end : field_end t at ≡ field_end t (run_end + 1)
      split-end = omega (arith, stops.size, ap length next)

      pub split-on : {n end : ℕ} → Some (n, end) ≡ run_decimal t at most → split_field ≡ f n (field_from t (run_end + 1))
      split-on {n} e =
          ap (λ (s : List ℕ). on_accepted (read_decimal most s) (λ n. f n (behind c (field_from t at)))) stops.first
          ∙ on_accepted-passed (read_decimal most (run (drop at t))) _ (number-told _ _ e).0
          ∙ ap (f n) (stops.second ∙ next)

      split-refused : None ≡ run_decimal t at most → split_field ≡ Err (refusal 20)
      split-refused e =
          ap (λ (s : List ℕ). on_accepted (read_decimal most s) (λ n. f n (behind c (field_from t at)))) stops.first
          ∙ on_accepted-refused (read_decimal most (run (drop at t))) _ (number-wrong _ most _ e)

    pub split-wrong : None ≡ run_decimal t at most → split_field ≡ Err (refusal 20)
    split-wrong e = by-stop (λ h k. split-refused h k e) split-open
