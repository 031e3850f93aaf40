-- What a loop over hex text has left to read and to write.
use Prim.Native.Nat.{ℕ, suc, ◌+◌, ◌*◌, ◌/◌, ◌%◌, ◌≤◌, ◌<◌}
use native.Mathlib.Nat.{zero-add, add-zero}
use native.Mathlib.Numerals.{add-one}
use native.Mathlib.Omega.{arith}
use mathlib.Core.Path.{◌≡◌, refl, sym, ap, ◌∙◌}
use mathlib.Core.Bool.{Bool, true, false, ◌&&◌}
use mathlib.Core.List.{List, [], ◌∷◌}
use lib.ListN.{length, drop, get_or, set, length-set, drop_of_length-le}
use lib.Seq.{sets, drop-cons}
use lib.Dec.{leb, eqb}
use borrow.Author.Tests.{leb-true}
use Rattle.std.specs.Prelude.{Option, Some, None, IfSome}
use Rattle.std.specs.List.{list_all}
use Rattle.wire.specs.Numbers.{pick}
use Rattle.text.specs.declared.Mark.{Mark}
use Rattle.text.specs.declared.Mark.TheVariants.{Digit, Space, Other}
use Rattle.text.specs.Hex.{among, mark_of, is_hex, digits, kind_of, paired, hex_bytes, glyph_of, hex_text, printable}

-- ---- marks

first_of : (p q : Bool) → pick p q false ≡ true → p ≡ true
first_of true q e = refl
first_of false q e = e

second-of : (p q : Bool) → pick p q false ≡ true → q ≡ true
second-of true q e = e
second-of false q e = absurd (let z : ◌≡◌ {A = ℕ} 0 1 = cc in omega arith)

pub low : (a b c : ℕ) → among a b c ≡ true → a ≤ c
low a b c e = leb-true a c (first_of (leb a c) (leb c b) e)

high : (a b c : ℕ) → among a b c ≡ true → c ≤ b
high a b c e = leb-true c b (second-of (leb a c) (leb c b) e)

-- a digit is below 16
abbrev Small : Mark → Type 0
Small (Digit d) = d < 16
Small Space = Unit {0}
Small Other = Unit {0}

either : {A : Type 0} (P : A → Type 0) (b : Bool) {x y : A} → (b ≡ true → P x) → (b ≡ false → P y) → P (pick b x y)
either P true f g = f refl
either P false f g = g refl

mark-small : (c : ℕ) → Small (mark_of c)
unfolding mark_of
mark-small c =
    either Small (among 48 57 c) (λ e. omega (arith, low 48 57 c e, high 48 57 c e))
    (λ _. either Small (among 65 70 c) (λ e. omega (arith, low 65 70 c e, high 65 70 c e))
    (λ _. either Small (among 97 102 c) (λ e. omega (arith, low 97 102 c e, high 97 102 c e))
    (λ _. either Small (among 9 13 c) (λ e. tt)
    (λ _. either Small (eqb c 32) (λ e. tt) (λ e. tt)))))

pub digit-small : (c : ℕ) {d : ℕ} → mark_of c ≡ Digit d → d < 16
digit-small c e = rw e at (mark-small c)

-- ---- the kind of what is left, with `n` digits before it

unfoldable pub kind_from : ℕ → List ℕ → Option ℕ
kind_from n s = pick (is_hex s) (Some (n + length (digits s))) None

pub kind-first : (s : List ℕ) → kind_from 0 s ≡ kind_of s
unfolding kind_from kind_of
kind-first s = simp zero-add

pub kind-done : (n i : ℕ) (s : List ℕ) → length s ≤ i → kind_from n (drop i s) ≡ Some n
unfolding kind_from is_hex digits
kind-done n i s h = rw (drop_of_length-le s {i = i} h) (ap Some (add-zero n))

module _ (s : List ℕ) (i : ℕ) (inside : i < length s) where
  pub next : drop i s ≡ get_or s i 0 ∷ drop (i + 1) s
  next = rw (add-one i) (drop-cons s i 0 inside)

  pub kind-digit : (n : ℕ) {d : ℕ} → mark_of (get_or s i 0) ≡ Digit d → kind_from (n + 1) (drop (i + 1) s) ≡ kind_from n (drop i s)
  unfolding kind_from is_hex digits
  kind-digit n e = rw next (simp (e) (let more : n + 1 + length (digits (drop (i + 1) s)) ≡ n + suc (length (digits (drop (i + 1) s))) = omega arith in rw more refl))

  pub kind-space : (n : ℕ) → mark_of (get_or s i 0) ≡ Space → kind_from n (drop (i + 1) s) ≡ kind_from n (drop i s)
  unfolding kind_from is_hex digits
  kind-space n e = rw next (simp e)

  pub kind-other : (n : ℕ) → mark_of (get_or s i 0) ≡ Other → kind_from n (drop i s) ≡ None
  unfolding kind_from is_hex digits
  kind-other n e = rw next (simp e)

-- ---- the bytes of what is left, behind a first digit if there is one

unfoldable pub bytes_from : Option ℕ → List ℕ → List ℕ
bytes_from None s = paired (digits s)
bytes_from (Some h) s = paired (h ∷ digits s)

no_bytes : (high : Option ℕ) → bytes_from high [] ≡ []
unfolding bytes_from digits paired
no_bytes None = refl
no_bytes (Some h) = refl

module _ (s : List ℕ) (i : ℕ) (inside : i < length s) where
  bytes_pair : (h : ℕ) {d : ℕ} → mark_of (get_or s i 0) ≡ Digit d → bytes_from (Some h) (drop i s) ≡ (h * 16 + d) ∷ bytes_from None (drop (i + 1) s)
  unfolding bytes_from digits paired
  bytes_pair h e = rw (next s i inside) (simp e)

  bytes_first : {d : ℕ} → mark_of (get_or s i 0) ≡ Digit d → bytes_from None (drop i s) ≡ bytes_from (Some d) (drop (i + 1) s)
  unfolding bytes_from digits
  bytes_first e = rw (next s i inside) (simp e)

  bytes_same : (high : Option ℕ) → digits (drop i s) ≡ digits (drop (i + 1) s) → bytes_from high (drop i s) ≡ bytes_from high (drop (i + 1) s)
  unfolding bytes_from
  bytes_same None e = simp e
  bytes_same (Some h) e = simp e

  digits_space : mark_of (get_or s i 0) ≡ Space → digits (drop i s) ≡ digits (drop (i + 1) s)
  unfolding digits
  digits_space e = rw (next s i inside) (simp e)

  digits_other : mark_of (get_or s i 0) ≡ Other → digits (drop i s) ≡ digits (drop (i + 1) s)
  unfolding digits
  digits_other e = rw (next s i inside) (simp e)

-- what is left of decoding `s` into `out₀`
pub record DecodeLeft (s out₀ out : List ℕ) (to : ℕ) (high : Option ℕ) (i : ℕ) : Type 0 where
  pub inside : i ≤ length s
  pub behind : to ≤ i
  pub small : IfSome high (λ h. h < 16)
  pub size : length out ≡ length out₀
  pub count : to + length (bytes_from high (drop i s)) ≡ length (hex_bytes s)
  pub stored : sets out to (bytes_from high (drop i s)) ≡ sets out₀ 0 (hex_bytes s)

pub decode-start : (s out : List ℕ) → DecodeLeft s out out 0 None 0
unfolding bytes_from hex_bytes
decode-start s out = record { inside = omega arith; behind = omega arith; small = tt; size = refl; count = omega arith; stored = refl }

module _ {s out₀ out : List ℕ} {to i : ℕ} where
  pub decode-pair : {h d : ℕ} → DecodeLeft s out₀ out to (Some h) i → i < length s → mark_of (get_or s i 0) ≡ Digit d → DecodeLeft s out₀ (set out to (h * 16 + d)) (to + 1) None (i + 1)
  decode-pair {h} {d} left more e =
      let step = bytes_pair s i more h e in
      record {
        inside = omega arith;
        behind = omega (arith, left.behind);
        small = tt;
        size = simp length-set left.size;
        count = omega (arith, left.count, ap length step);
        stored = rw (add-one to) (sym (ap (sets out to) step) ∙ left.stored);
      }

  skip : {high next : Option ℕ} → DecodeLeft s out₀ out to high i → i < length s → IfSome next (λ h. h < 16) → bytes_from high (drop i s) ≡ bytes_from next (drop (i + 1) s) → DecodeLeft s out₀ out to next (i + 1)
  skip left more small step =
      record {
        inside = omega arith;
        behind = omega (arith, left.behind);
        small = small;
        size = left.size;
        count = rw step at left.count;
        stored = rw step at left.stored;
      }

  pub decode-first : {d : ℕ} → DecodeLeft s out₀ out to None i → i < length s → mark_of (get_or s i 0) ≡ Digit d → DecodeLeft s out₀ out to (Some d) (i + 1)
  decode-first left more e = skip left more (digit-small (get_or s i 0) e) (bytes_first s i more e)

  pub decode-skip : {high : Option ℕ} (m : Mark) → DecodeLeft s out₀ out to high i → i < length s → mark_of (get_or s i 0) ≡ m → ((d : ℕ) → m ≡ Digit d → ⊥) → DecodeLeft s out₀ out to high (i + 1)
  decode-skip (Digit d) left more e none = absurd (none d refl)
  decode-skip {high} Space left more e _ = skip left more left.small (bytes_same s i more high (digits_space s i more e))
  decode-skip {high} Other left more e _ = skip left more left.small (bytes_same s i more high (digits_other s i more e))

pub decode-done : {s out₀ out : List ℕ} {to : ℕ} {high : Option ℕ} {i : ℕ} → DecodeLeft s out₀ out to high i → length s ≤ i → (to ≡ length (hex_bytes s)) × (out ≡ sets out₀ 0 (hex_bytes s))
decode-done {s} {out₀} {out} {to} {high} {i} left h =
    let none : bytes_from high (drop i s) ≡ [] = ap (bytes_from high) (drop_of_length-le s {i = i} h) ∙ no_bytes high in
    (omega (arith, left.count, ap length none), sym (ap (sets out to) none) ∙ left.stored)

-- ---- what is left of writing bytes as hex text

pub record EncodeLeft (s out₀ out : List ℕ) (i : ℕ) : Type 0 where
  pub inside : i ≤ length s
  pub size : length out ≡ length out₀
  pub stored : sets out (2 * i) (hex_text (drop i s)) ≡ sets out₀ 0 (hex_text s)

pub encode-first : (s out : List ℕ) → EncodeLeft s out out 0
encode-first s out = record { inside = omega arith; size = refl; stored = refl }

pub encode-turn : {s out₀ out : List ℕ} {i : ℕ} → EncodeLeft s out₀ out i → i < length s
    → EncodeLeft s out₀ (set (set out (2 * i) (glyph_of (get_or s i 0 / 16))) (2 * i + 1) (glyph_of (get_or s i 0 % 16))) (i + 1)
unfolding hex_text
encode-turn {s} {out₀} {out} {i} left more =
    let behind : 2 * (i + 1) ≡ suc (suc (2 * i)) = omega arith in
    record {
      inside = omega arith;
      size = simp length-set left.size;
      stored = rw (behind, add-one (2 * i)) (sym (ap (λ (t : List ℕ). sets out (2 * i) (hex_text t)) (next s i more)) ∙ left.stored);
    }

pub encode-done : {s out₀ out : List ℕ} {i : ℕ} → EncodeLeft s out₀ out i → length s ≤ i → out ≡ sets out₀ 0 (hex_text s)
unfolding hex_text
encode-done {s} {out₀} {out} {i} left h = rw (drop_of_length-le s {i = i} h) at left.stored

-- ---- printable text

pub printable-all : (s : List ℕ) → list_all (among 32 126) s ≡ printable s
unfolding printable
printable-all [] = refl
printable-all (b ∷ s) = and-pick (among 32 126 b) (printable-all s)
  where
    and-pick : (p : Bool) {x y : Bool} → x ≡ y → (p && x) ≡ pick p y false
    and-pick true e = e
    and-pick false e = refl
