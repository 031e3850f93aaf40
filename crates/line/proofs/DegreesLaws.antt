-- Degrees with seven places are read exactly where they are written.
use Rattle.std.specs.Prelude.{Ok}
use Prim.Native.Nat.{ℕ, suc, ◌+◌, ◌-◌, ◌*◌, ◌/◌, ◌%◌, ◌^◌, ◌≤◌, ◌<◌}
use native.Mathlib.Nat.{div-add-mod', mod-lt}
use native.Mathlib.Omega.{arith}
use mathlib.Core.Path.{◌≡◌, refl, sym, ap, ap₂, ◌∙◌, subst}
use mathlib.Core.Bool.{false}
use mathlib.Core.List.{List, [], ◌∷◌, ◌++◌}
use lib.ListN.{length}
use lib.IntN.{ℤ, pos, negsuc}
use lib.Dec.{eqb, leb, lit<}
use lib.Arith.{digits_div, digits_mod}
use borrow.Author.Tests.{leb-true, le-leb, eqb-true, eq-eqb, ne_eqb}
use Rattle.wire.specs.Numbers.{digits, value_from}
use Rattle.wire.specs.Sequences.{joined, All}
use Rattle.wire.specs.Imei.{ascii_digit}
use Rattle.wire.specs.Answers.{on_accepted}
use Rattle.wire.proofs.Widths.{all_append, length_digits, digits-small, value-digits, digits_value, value-lt}
use Rattle.wire.proofs.ImeiText.{length-digit_bytes}
use Rattle.wire.proofs.Accepting.{check-accepted, check-passed, on_accepted-accepted, on_accepted-passed}
use Rattle.text.specs.Decimal.{decimal}
use Rattle.line.specs.Pieces.{before, behind}
use Rattle.line.specs.Lines.{FitsI32, unsigned_degrees, degrees}
use Rattle.line.specs.LineReader.{all_digits, digits_of, said, read_decimal, read_unsigned, positive, negative, read_degrees}
use Rattle.line.proofs.Cases.{by-test, all-weaken}
use Rattle.line.proofs.PieceLaws.{Free, InField, before-free, behind-free, split-some}
use Rattle.line.proofs.Inverses.{Inverse}
use Rattle.line.proofs.DecimalLaws.{IsDigit, digits-true, true-digits, decimal-digits, decimal-free, decimal-some, decimal-inverse}

-- ---- places: digits of which none is left out

digits-of : (ds : List ℕ) → digits_of (joined ascii_digit ds) ≡ ds
unfolding digits_of
digits-of [] = refl
digits-of (d ∷ ds) = let same : 48 + d - 48 ≡ d = omega arith in ap₂ (λ (x : ℕ) (l : List ℕ). x ∷ l) same (digits-of ds)

of-digits : (s : List ℕ) → All IsDigit s → joined ascii_digit (digits_of s) ≡ s
unfolding digits_of
of-digits [] h = refl
of-digits (c ∷ s) h = let same : 48 + (c - 48) ≡ c = omega (arith, h.0.0) in ap₂ (λ (x : ℕ) (l : List ℕ). x ∷ l) same (of-digits s h.1)

length-of : (s : List ℕ) → length (digits_of s) ≡ length s
unfolding digits_of
length-of [] = refl
length-of (c ∷ s) = ap suc (length-of s)

small_of : (s : List ℕ) → All IsDigit s → All (λ d. d < 10) (digits_of s)
unfolding digits_of
small_of [] h = tt
small_of (c ∷ s) h = (omega (arith, h.0.1), small_of s h.1)

places-digits : (ds : List ℕ) → All (λ d. d < 10) ds → All IsDigit (joined ascii_digit ds)
places-digits [] h = tt
places-digits (d ∷ ds) h = ((omega arith, omega (arith, h.0)), places-digits ds h.1)

abbrev places : ℕ → List ℕ
places m = joined ascii_digit (digits 10 7 (m % 10 ^ 7))

module _ (m : ℕ) where
  places-all : All IsDigit (places m)
  places-all = places-digits (digits 10 7 (m % 10 ^ 7)) (digits-small 10 7 (m % 10 ^ 7) (lit< tt))

  places-length : length (places m) ≡ 7
  places-length = length-digit_bytes (digits 10 7 (m % 10 ^ 7)) ∙ length_digits 10 7 (m % 10 ^ 7)

  places-said : said (places m) ≡ m % 10 ^ 7
  places-said = ap (value_from 10 0) (digits-of (digits 10 7 (m % 10 ^ 7))) ∙ value-digits 10 7 (m % 10 ^ 7) (lit< tt) (mod-lt m (lit< tt))

places-exact : (s : List ℕ) → All IsDigit s → length s ≡ 7 → (said s < 10 ^ 7) × (joined ascii_digit (digits 10 7 (said s)) ≡ s)
places-exact s h e =
    let ds = digits_of s in
    let small = small_of s h in
    let size : length ds ≡ 7 = length-of s ∙ e in (
      subst (λ (n : ℕ). value_from 10 0 ds < 10 ^ n) size (value-lt 10 ds small),
      ap (joined ascii_digit) (ap (λ (n : ℕ). digits 10 n (said s)) (sym size) ∙ digits_value 10 ds (lit< tt) small) ∙ of-digits s h,
    )

-- ---- without a sign

unsigned-undo : (m : ℕ) → m < 215 * 10 ^ 7 → read_unsigned (unsigned_degrees m) ≡ Ok m
unfolding read_unsigned unsigned_degrees
unsigned-undo m h =
    let whole = decimal (m / 10 ^ 7) in
    let free : Free 46 whole = decimal-free 46 (m / 10 ^ 7) (λ k. omega (arith, k.0)) in
    simp (before-free 46 whole (places m) free, behind-free 46 whole (places m) free)
    (on_accepted-passed (read_decimal 214 whole) _ ((decimal-inverse 214 (lit< tt)).undo (m / 10 ^ 7) (omega arith))
    ∙ check-passed (eqb (length (places m)) 7) 20 _ _ (eq-eqb _ 7 (places-length m))
    ∙ check-passed (all_digits (places m)) 20 _ _ (true-digits (places m) (places-all m))
    ∙ ap Ok (ap (λ (x : ℕ). m / 10 ^ 7 * 10 ^ 7 + x) (places-said m) ∙ div-add-mod' m (10 ^ 7)))

unsigned-exact : (s : List ℕ) (m : ℕ) → read_unsigned s ≡ Ok m → (m < 215 * 10 ^ 7) × (s ≡ unsigned_degrees m)
unfolding read_unsigned unsigned_degrees
unsigned-exact s m e =
    let i = on_accepted-accepted (read_decimal 214 (before 46 s)) _ e in
    let whole : ℕ = i.0 in
    let a = (decimal-inverse 214 (lit< tt)).exact (before 46 s) whole i.1 in
    let b = check-accepted (eqb (length (behind 46 s)) 7) 20 _ _ i.2 in
    let c = check-accepted (all_digits (behind 46 s)) 20 _ _ b.1 in
    let size : length (behind 46 s) ≡ 7 = eqb-true _ 7 b.0 in
    let k = places-exact (behind 46 s) (digits-true (behind 46 s) c.0) size in
    let same : whole * 10 ^ 7 + said (behind 46 s) ≡ m = cc c.1 in
    let few : whole ≤ 214 = a.0 in
    let low : said (behind 46 s) < 10 ^ 7 = k.0 in
    let front : m / 10 ^ 7 ≡ whole = ap (λ (x : ℕ). x / 10 ^ 7) (sym same) ∙ digits_div whole low in
    let back : m % 10 ^ 7 ≡ said (behind 46 s) = ap (λ (x : ℕ). x % 10 ^ 7) (sym same) ∙ digits_mod whole low in (
      omega arith,
      split-some 46 s (omega arith)
          ∙ ap₂ (λ (p q : List ℕ). p ++ (46 ∷ q)) (a.1 ∙ ap decimal (sym front)) (sym k.1 ∙ ap (λ (x : ℕ). joined ascii_digit (digits 10 7 x)) (sym back)),
    )

-- ---- with a sign

-- no minus sign begins a number without one
unsigned-front : (p q : List ℕ) → 1 ≤ length p → All IsDigit p → read_degrees (p ++ q) ≡ on_accepted (read_unsigned (p ++ q)) positive
unfolding read_degrees
unsigned-front [] q h k = absurd (omega arith)
unsigned-front (c ∷ p) q h k = simp (ne_eqb c 45 (λ e. omega (arith, k.0.0)))

positive-front : (m : ℕ) → read_degrees (unsigned_degrees m) ≡ on_accepted (read_unsigned (unsigned_degrees m)) positive
unfolding unsigned_degrees
positive-front m = unsigned-front (decimal (m / 10 ^ 7)) (46 ∷ places m) (decimal-some (m / 10 ^ 7)) (decimal-digits (m / 10 ^ 7))

degrees-undo : (z : ℤ) → FitsI32 z → read_degrees (degrees z) ≡ Ok z
unfolding degrees read_degrees
degrees-undo (pos m) h =
    positive-front m
    ∙ on_accepted-passed (read_unsigned (unsigned_degrees m)) positive (unsigned-undo m (omega arith))
    ∙ check-passed (leb m (2 ^ 31 - 1)) 20 _ _ (le-leb m (2 ^ 31 - 1) (omega arith))
degrees-undo (negsuc m) h =
    let same : suc m - 1 ≡ m = omega arith in
    on_accepted-passed (read_unsigned (unsigned_degrees (suc m))) negative (unsigned-undo (suc m) (omega arith))
    ∙ check-passed (leb 1 (suc m)) 20 _ _ (le-leb 1 (suc m) (omega arith))
    ∙ check-passed (leb (suc m) (2 ^ 31)) 20 _ _ (le-leb (suc m) (2 ^ 31) (omega arith))
    ∙ ap (λ (x : ℕ). Ok (negsuc x)) same

abbrev Is : List ℕ → ℤ → Type 0
Is s z = FitsI32 z × (s ≡ degrees z)

negative-exact : (s : List ℕ) (z : ℤ) → on_accepted (read_unsigned s) negative ≡ Ok z → Is (45 ∷ s) z
unfolding degrees
negative-exact s z e =
    let i = on_accepted-accepted (read_unsigned s) negative e in
    let m : ℕ = i.0 in
    let a = unsigned-exact s m i.1 in
    let b = check-accepted (leb 1 m) 20 _ _ i.2 in
    let c = check-accepted (leb m (2 ^ 31)) 20 _ _ b.1 in
    let some : 1 ≤ m = leb-true 1 m b.0 in
    let few : m ≤ 2 ^ 31 = leb-true m (2 ^ 31) c.0 in
    let same : suc (m - 1) ≡ m = omega arith in
    let is : negsuc (m - 1) ≡ z = cc c.1 in
    subst (Is (45 ∷ s)) is (omega arith, ap (λ (l : List ℕ). 45 ∷ l) (a.1 ∙ ap unsigned_degrees (sym same)))

positive-exact : (s : List ℕ) (z : ℤ) → on_accepted (read_unsigned s) positive ≡ Ok z → Is s z
unfolding degrees
positive-exact s z e =
    let i = on_accepted-accepted (read_unsigned s) positive e in
    let m : ℕ = i.0 in
    let a = unsigned-exact s m i.1 in
    let b = check-accepted (leb m (2 ^ 31 - 1)) 20 _ _ i.2 in
    let few : m ≤ 2 ^ 31 - 1 = leb-true m (2 ^ 31 - 1) b.0 in
    let is : pos m ≡ z = cc b.1 in
    subst (Is s) is (omega arith, a.1)

degrees-exact : (s : List ℕ) (z : ℤ) → read_degrees s ≡ Ok z → Is s z
unfolding read_degrees
degrees-exact [] z e = absurd (let z : ◌≡◌ {A = ℕ} 0 1 = cc in omega arith)
degrees-exact (c ∷ s) z e =
    by-test (eqb c 45)
    (λ t. subst (λ (x : ℕ). Is (x ∷ s) z) (sym (eqb-true c 45 t)) (negative-exact s z (simp t at e)))
    (λ t. positive-exact (c ∷ s) z (simp t at e))

pub degrees-inverse : Inverse read_degrees degrees FitsI32
degrees-inverse = record { undo = degrees-undo; exact = degrees-exact }

-- ---- their bytes

-- a minus sign, a point or a digit
abbrev pub IsDegree : ℕ → Type 0
IsDegree c = (45 ≤ c) × (c ≤ 57) × (eqb c 47 ≡ false)

digit-degree : (c : ℕ) → IsDigit c → IsDegree c
digit-degree c h = (omega (arith, h.0), h.1, ne_eqb c 47 (λ e. omega (arith, h.0)))

unsigned_bytes : (m : ℕ) → All IsDegree (unsigned_degrees m)
unfolding unsigned_degrees
unsigned_bytes m =
    all_append IsDegree (decimal (m / 10 ^ 7)) _ (all-weaken digit-degree (decimal (m / 10 ^ 7)) (decimal-digits (m / 10 ^ 7)))
    ((omega arith, omega arith, refl), all-weaken digit-degree (places m) (places-all m))

pub degrees-bytes : (z : ℤ) → All IsDegree (degrees z)
unfolding degrees
degrees-bytes (pos m) = unsigned_bytes m
degrees-bytes (negsuc m) = ((omega arith, omega arith, refl), unsigned_bytes (suc m))

degree-field : (c : ℕ) → IsDegree c → InField c
degree-field c h = (omega (arith, h.0), omega (arith, h.1), ne_eqb c 44 (λ e. omega (arith, h.0)))

pub degrees-field : (z : ℤ) → All InField (degrees z)
degrees-field z = all-weaken degree-field (degrees z) (degrees-bytes z)
