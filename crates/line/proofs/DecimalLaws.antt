-- Decimal numbers are read exactly where they are written without spare zeros.
use Rattle.std.specs.Prelude.{Ok}
use Prim.Native.Nat.{ℕ, zero, suc, ◌+◌, ◌-◌, ◌*◌, ◌/◌, ◌%◌, ◌^◌, ◌≤◌, ◌<◌}
use native.Mathlib.Nat.{pow-suc}
use native.Mathlib.Omega.{arith}
use mathlib.Core.Path.{◌≡◌, refl, sym, ap, ap₂, ◌∙◌}
use mathlib.Core.Bool.{true, false}
use mathlib.Core.List.{List, [], ◌∷◌, ◌++◌, append_assoc, append-nil}
use lib.ListN.{length, length-append}
use lib.Dec.{eqb, leb, ltb}
use lib.Arith.{digits_div, digits_mod}
use borrow.Author.Tests.{ltb-true, ltb-false, lt-ltb, leb-true, le-leb, eqb-true, eqb-false, ne_eqb}
use Rattle.wire.specs.Numbers.{value_from}
use Rattle.wire.specs.Sequences.{All}
use Rattle.wire.specs.Answers.{check_at}
use Rattle.wire.proofs.Widths.{all_append}
use Rattle.wire.proofs.Accepting.{both_true, check-accepted, by_length}
use Rattle.text.specs.Hex.{among}
use Rattle.text.specs.Decimal.{decimal_in, decimal}
use Rattle.text.proofs.DecimalLaws.{decimal-one, decimal-more}
use Rattle.line.specs.LineReader.{all_digits, digits_of, said, no_spare_zero, read_decimal}
use Rattle.line.proofs.Cases.{by-test, all-weaken}
use Rattle.line.proofs.PieceLaws.{Free, all-free, InField}
use Rattle.line.proofs.Inverses.{Inverse}

-- ---- digits as text

abbrev pub IsDigit : ℕ → Type 0
IsDigit c = (48 ≤ c) × (c ≤ 57)

pub digits-true : (s : List ℕ) → all_digits s ≡ true → All IsDigit s
unfolding all_digits
digits-true [] h = tt
digits-true (c ∷ s) h =
    let both = both_true (among 48 57 c) (all_digits s) h in
    let range = both_true (leb 48 c) (leb c 57) both.0 in
    ((leb-true 48 c range.0, leb-true c 57 range.1), digits-true s both.1)

pub true-digits : (s : List ℕ) → All IsDigit s → all_digits s ≡ true
unfolding all_digits
true-digits [] h = refl
true-digits (c ∷ s) h = simp (le-leb 48 c h.0.0, le-leb c 57 h.0.1) (true-digits s h.1)

said-snoc : (v : ℕ) (s : List ℕ) (c : ℕ) → value_from 10 v (digits_of (s ++ (c ∷ []))) ≡ value_from 10 v (digits_of s) * 10 + (c - 48)
unfolding value_from digits_of
said-snoc v [] c = refl
said-snoc v (b ∷ s) c = said-snoc (v * 10 + (b - 48)) s c

pub value_grows : (v : ℕ) (s : List ℕ) → v ≤ value_from 10 v (digits_of s)
unfolding value_from digits_of
value_grows v [] = omega arith
value_grows v (c ∷ s) = omega (arith, value_grows (v * 10 + (c - 48)) s)

-- ---- a number's digits

decimal_in-digits : (f n : ℕ) → All IsDigit (decimal_in f n)
unfolding decimal_in
decimal_in-digits zero n = tt
decimal_in-digits (suc f) n =
    by-test (ltb n 10) (λ e. simp e (let h : n < 10 = ltb-true n 10 e in ((omega arith, omega arith), tt)))
    (λ e. simp e (all_append IsDigit (decimal_in f (n / 10)) ((48 + n % 10) ∷ []) (decimal_in-digits f (n / 10)) ((omega arith, omega arith), tt)))

pub decimal-digits : (n : ℕ) → All IsDigit (decimal n)
unfolding decimal
decimal-digits n = decimal_in-digits 20 n

digit-field : (c : ℕ) → IsDigit c → InField c
digit-field c h = (omega (arith, h.0), omega (arith, h.1), ne_eqb c 44 (λ e. omega (arith, h.0)))

pub decimal-field : (n : ℕ) → All InField (decimal n)
decimal-field n = all-weaken digit-field (decimal n) (decimal-digits n)

-- 61 and 46 are none of them
pub decimal-free : (c n : ℕ) → (IsDigit c → ⊥) → Free c (decimal n)
decimal-free c n other = all-free IsDigit c other (decimal n) (decimal-digits n)

pub decimal-some : (n : ℕ) → 1 ≤ length (decimal n)
unfolding decimal decimal_in
decimal-some n = by-test (ltb n 10) (λ e. simp e (omega arith)) (λ e. simp (e, length-append) (omega arith))

-- ---- one digit more

decimal-next : (v d : ℕ) → 1 ≤ v → d < 10 → v * 10 + d < 10 ^ 20 → decimal (v * 10 + d) ≡ decimal v ++ ((48 + d) ∷ [])
decimal-next v d h k fits =
    decimal-more (v * 10 + d) fits (omega arith) ∙ ap₂ (λ (a b : ℕ). decimal a ++ ((48 + b) ∷ [])) (digits_div v k) (digits_mod v k)

-- digits behind a number that is not 0
decimal-on : (v : ℕ) (s : List ℕ) → 1 ≤ v → All IsDigit s → value_from 10 v (digits_of s) < 10 ^ 20 → decimal (value_from 10 v (digits_of s)) ≡ decimal v ++ s
unfolding value_from digits_of
decimal-on v [] h k fits = sym (append-nil (decimal v))
decimal-on v (c ∷ s) h k fits =
    let d : ℕ = c - 48 in
    let small : d < 10 = omega (arith, k.0.1) in
    let same : 48 + d ≡ c = omega (arith, k.0.0) in
    decimal-on (v * 10 + d) s (omega arith) k.1 fits
    ∙ ap (λ (l : List ℕ). l ++ s) (decimal-next v d h small (omega (arith, value_grows (v * 10 + d) s)))
    ∙ append_assoc (decimal v) ((48 + d) ∷ []) s
    ∙ ap (λ (x : ℕ). decimal v ++ (x ∷ s)) same

-- ---- what was written is read

said_in : (f n : ℕ) → n < 10 ^ suc f → said (decimal_in (suc f) n) ≡ n
unfolding decimal_in value_from digits_of
said_in zero n h = let small : n < 10 = omega arith in simp (lt-ltb n 10 small) (omega arith)
said_in (suc f) n h =
    by-test (ltb n 10) (λ e. simp e (omega arith))
    (λ e. simp e
    (said-snoc 0 (decimal_in (suc f) (n / 10)) (48 + n % 10)
    ∙ ap (λ (v : ℕ). v * 10 + (48 + n % 10 - 48)) (said_in f (n / 10) (omega (arith, pow-suc 10 (suc f))))
    ∙ omega arith))

said-decimal : (n : ℕ) → n < 10 ^ 20 → said (decimal n) ≡ n
unfolding decimal
said-decimal n h = said_in 19 n h

-- it begins with another digit than 0
abbrev Leading : List ℕ → Type 0
Leading [] = ⊥
Leading (c ∷ s) = eqb c 48 ≡ false

leading-append : (p q : List ℕ) → Leading p → Leading (p ++ q)
leading-append [] q h = absurd h
leading-append (c ∷ p) q h = h

leading-zero : (s : List ℕ) → Leading s → no_spare_zero s ≡ true
unfolding no_spare_zero
leading-zero [] h = absurd h
leading-zero (c ∷ s) h = simp h

leading-in : (f n : ℕ) → 1 ≤ n → n < 10 ^ suc f → Leading (decimal_in (suc f) n)
unfolding decimal_in
leading-in zero n some h = let small : n < 10 = omega arith in simp (lt-ltb n 10 small) (ne_eqb (48 + n) 48 (λ e. omega arith))
leading-in (suc f) n some h =
    by-test (ltb n 10) (λ e. simp e (ne_eqb (48 + n) 48 (λ k. omega arith)))
    (λ e. let tens : 10 ≤ n = ltb-false n 10 e in
    simp e (leading-append (decimal_in (suc f) (n / 10)) _ (leading-in f (n / 10) (omega arith) (omega (arith, pow-suc 10 (suc f))))))

decimal-plain : (n : ℕ) → n < 10 ^ 20 → no_spare_zero (decimal n) ≡ true
unfolding decimal no_spare_zero decimal_in
decimal-plain zero h = refl
decimal-plain (suc n) h = leading-zero (decimal_in 20 (suc n)) (leading-in 19 (suc n) (omega arith) h)

-- ---- the parser

decimal-first : (c : ℕ) → IsDigit c → decimal (0 * 10 + (c - 48)) ≡ c ∷ []
decimal-first c h =
    let small : 0 * 10 + (c - 48) < 10 = omega (arith, h.1) in
    let same : 48 + (0 * 10 + (c - 48)) ≡ c = omega (arith, h.0) in
    decimal-one (0 * 10 + (c - 48)) small ∙ ap (λ (x : ℕ). x ∷ []) same

decimal-said : (s : List ℕ) → no_spare_zero s ≡ true → All IsDigit s → said s < 10 ^ 20 → decimal (said s) ≡ s
unfolding no_spare_zero value_from digits_of
decimal-said [] z k fits = absurd (let z : ◌≡◌ {A = ℕ} 0 1 = cc in omega arith)
decimal-said (c ∷ []) z k fits = decimal-first c k.0
decimal-said (c ∷ b ∷ s) z k fits =
    by-test (eqb c 48)
    (λ e. absurd (omega (arith, eqb-true (suc (length s)) 0 (simp e at z))))
    (λ e. let other = eqb-false c 48 e in
    let some : 1 ≤ 0 * 10 + (c - 48) = by_length 1 (0 * 10 + (c - 48)) (λ h. h) (λ h. absurd (other (omega (arith, k.0.0)))) in
    decimal-on (0 * 10 + (c - 48)) (b ∷ s) some k.1 fits ∙ ap (λ (l : List ℕ). l ++ (b ∷ s)) (decimal-first c k.0))

decimal-exact : (most : ℕ) → most < 10 ^ 20 → (s : List ℕ) (n : ℕ) → read_decimal most s ≡ Ok n → (n ≤ most) × (s ≡ decimal n)
unfolding read_decimal
decimal-exact most h s n e =
    let a = check-accepted (no_spare_zero s) 20 _ _ e in
    let b = check-accepted (all_digits s) 20 _ _ a.1 in
    let c = check-accepted (leb (said s) most) 20 _ _ b.1 in
    let same : said s ≡ n = cc c.1 in
    let fits : said s ≤ most = leb-true (said s) most c.0 in
    (omega arith, sym (decimal-said s a.0 (digits-true s b.0) (omega arith)) ∙ ap decimal same)

decimal-undo : (most n : ℕ) → most < 10 ^ 20 → n ≤ most → read_decimal most (decimal n) ≡ Ok n
unfolding read_decimal check_at
decimal-undo most n h k =
    let same : said (decimal n) ≡ n = said-decimal n (omega arith) in
    simp (decimal-plain n (omega arith), true-digits (decimal n) (decimal-digits n), same, le-leb n most k)

pub decimal-inverse : (most : ℕ) → most < 10 ^ 20 → Inverse (read_decimal most) decimal (λ n. n ≤ most)
decimal-inverse most h = record { undo = λ n k. decimal-undo most n h k; exact = decimal-exact most h }
