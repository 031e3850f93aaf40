-- What the code's answer tells of the frame's judge.
use Rattle.std.specs.Prelude.{Err, Ok}
use Prim.Native.Nat.{ℕ, ◌+◌, ◌-◌, ◌≤◌}
use native.Mathlib.Omega.{arith}
use mathlib.Core.Path.{◌≡◌, refl, sym, ap, ap₂, subst, ◌∙◌}
use mathlib.Core.Bool.{Bool, true, false}
use mathlib.Core.List.{List}
use lib.ListN.{length, take, drop}
use lib.Dec.{eqb, leb}
use borrow.Author.Tests.{le-leb, leb-true, eqb-true}
use Rattle.wire.specs.Numbers.{Bytes, number_at}
use Rattle.wire.specs.declared.Refusal.{Refusal}
use Rattle.wire.specs.Answers.{Answer, refusal_at, check, check_at}
use Rattle.wire.proofs.Accepting.{check-accepted, check-passed}
use Rattle.wire.proofs.Placed.{between-whole}
use Rattle.checksum.specs.Crc.{crc}
use Rattle.frame.specs.Frame.{framed, field_length, field_of, headed, header, unframe, framing, refusal_of}
use Rattle.frame.proofs.FrameLaws.{length-framed, parts, frame-exact}

framing-accepted : (r : Answer (List ℕ)) {n : ℕ} → framing r ≡ Ok n → (d : List ℕ) × (r ≡ Ok d) × (length d ≡ n)
unfolding framing
framing-accepted (Ok d) e = (d, refl, cc)
framing-accepted (Err x) e = absurd (let z : ◌≡◌ {A = ℕ} 0 1 = cc in omega arith)

pub framing-field : (largest : ℕ) (p : List ℕ) (n : ℕ) → framing (unframe largest p) ≡ Ok n → Bytes p
    → (unframe largest p ≡ Ok (take n (drop 8 p))) × (length p ≡ n + 12) × (3 ≤ n)
unfolding field_of
framing-field largest p n e h =
    let a = framing-accepted (unframe largest p) e in
    let d = a.0 in
    let rules = (frame-exact largest p d h).0 a.1 in
    let k = parts d (framed d) _ rules.0.bytes rules.0.counted (between-whole (framed d)) in
    let field : take n (drop 8 p) ≡ d =
    ap₂ (λ (m : ℕ) (s : List ℕ). take m (drop 8 s)) (sym (k.size ∙ a.2)) rules.1 ∙ k.field
    in
    (a.1 ∙ ap Ok (sym field), omega (arith, ap length rules.1, length-framed d, a.2), omega (arith, rules.0.least, a.2))

-- ---- the header

module _ (largest : ℕ) (p : List ℕ) where
  -- what a header that passes gives, whatever stands behind it
  pub header-field : (n : ℕ) → header largest p ≡ Ok n
      → (n ≡ field_length p) × (3 ≤ n) × (n + 12 ≤ largest) × ((A : Type 0) (rest : Answer A) → headed largest p rest ≡ rest)
  header-field n e =
      let c₁ = check-accepted _ 2 _ _ e in
      let c₂ = check-accepted _ 3 _ _ c₁.1 in
      let c₃ = check-accepted _ 3 _ _ c₂.1 in
      let least : 3 ≤ field_length p = leb-true _ _ c₂.0 in
      let most : field_length p + 12 ≤ largest = leb-true _ _ c₃.0 in
      let same : field_length p ≡ n = cc c₃.1 in (
        sym same,
        omega arith,
        omega arith,
        λ A rest. check-passed _ 2 _ _ c₁.0 ∙ check-passed _ 3 _ _ c₂.0 ∙ check-passed _ 3 _ _ c₃.0,
      )

  -- a header that is refused, whatever stands behind it
  pub header-unframed : {A : Type 0} {x : Refusal} → header largest p ≡ Err x → (rest : Answer A) → headed largest p rest ≡ Err x
  unfolding check_at
  header-unframed {A} {x} e rest = go (eqb (number_at p 0 4) 0) (leb 3 (field_length p)) (leb (field_length p + 12) largest) e
    where
      go : (a b c : Bool) → ◌≡◌ {A = Answer ℕ} (check_at a 2 0 (check_at b 3 4 (check_at c 3 4 (Ok (field_length p))))) (Err x)
          → check_at a 2 0 (check_at b 3 4 (check_at c 3 4 rest)) ≡ Err x
      go false b c e = let same : refusal_at 2 0 ≡ x = cc e in ap Err same
      go true false c e = let same : refusal_at 3 4 ≡ x = cc e in ap Err same
      go true true false e = let same : refusal_at 3 4 ≡ x = cc e in ap Err same
      go true true true e = absurd (let z : ◌≡◌ {A = ℕ} 0 1 = cc in omega arith)

  pub refused-header : {x : Refusal} → header largest p ≡ Err x → 1 ≤ largest → 8 ≤ length p → unframe largest p ≡ Err x
  unfolding unframe
  refused-header e k h = check-passed _ 21 _ _ (le-leb 1 largest k) ∙ check-passed _ 1 _ _ (le-leb 8 (length p) h) ∙ header-unframed e _

  -- what is left to judge behind a header that passes
  pub behind-header : (n : ℕ) → header largest p ≡ Ok n → 1 ≤ largest → 8 ≤ length p → let d = take n (drop 8 p) in
      unframe largest p ≡ check (eqb (length p) (n + 12)) 4 (check_at (eqb (number_at p (8 + n) 4) (crc d)) 5 (8 + n) (Ok d))
  unfolding unframe field_of
  behind-header n e k h =
      let f = header-field n e in
      check-passed _ 21 _ _ (le-leb 1 largest k)
      ∙ check-passed _ 1 _ _ (le-leb 8 (length p) h)
      ∙ f.3 (List ℕ) _
      ∙ ap
      (λ (k : ℕ). check (eqb (length p) (k + 12)) 4 (check_at (eqb (number_at p (8 + k) 4) (crc (take k (drop 8 p)))) 5 (8 + k) (Ok (take k (drop 8 p)))))
      (sym f.0)

-- ---- the frame

-- refused as the number says it of so many bytes
abbrev Whole : {A : Type 0} → ℕ → Answer A → Type 0
Whole size r = (x : Refusal) → r ≡ Err x → x ≡ refusal_of size x.number

whole-accepted : {A : Type 0} (size : ℕ) (a : A) → Whole size (Ok a)
whole-accepted size a x e = absurd (let z : ◌≡◌ {A = ℕ} 0 1 = cc in omega arith)

whole-check : {A : Type 0} (size : ℕ) (test : Bool) (number place : ℕ) (rest : Answer A) → refusal_at number place ≡ refusal_of size number
    → (test ≡ true → Whole size rest) → Whole size (check_at test number place rest)
unfolding check_at
whole-check size true number place rest k h x e = h refl x e
whole-check size false number place rest k h x e =
    let same : refusal_at number place ≡ x = cc in
    subst (λ (y : Refusal). y ≡ refusal_of size y.number) same k

-- whatever stands behind the header
whole-headed : {A : Type 0} (largest : ℕ) (p : List ℕ) (size : ℕ) {rest : Answer A} → Whole size rest → Whole size (headed largest p rest)
unfolding refusal_of
whole-headed largest p size w = whole-check size _ 2 0 _ refl (λ _. whole-check size _ 3 4 _ refl (λ _. whole-check size _ 3 4 _ refl (λ _. w)))

-- of the header alone, whatever the packet's size
pub whole-header : (largest : ℕ) (p : List ℕ) (size : ℕ) → Whole size (header largest p)
whole-header largest p size = whole-headed largest p size (whole-accepted size _)

whole-unframe : (largest : ℕ) (p : List ℕ) → Whole (length p) (unframe largest p)
unfolding unframe refusal_of
whole-unframe largest p =
    let n = length p in
    whole-check n _ 21 0 _ refl (λ _. whole-check n _ 1 0 _ refl
    (λ _. whole-headed largest p n (whole-check n (eqb n (field_length p + 12)) 4 0 _ refl
    (λ e. let long : n ≡ field_length p + 12 = eqb-true _ _ e in
    let last : 8 + field_length p ≡ n - 4 = omega arith in
    whole-check n _ 5 _ _ (ap (refusal_at 5) last) (λ _. whole-accepted n _)))))

framing-refused : (r : Answer (List ℕ)) {x : Refusal} → framing r ≡ Err x → r ≡ Err x
unfolding framing
framing-refused (Ok d) e = absurd (let z : ◌≡◌ {A = ℕ} 0 1 = cc in omega arith)
framing-refused (Err y) {x} e = let same : y ≡ x = cc in ap Err same

-- what is refused, and where: the number says the place
pub framing-unframed : (largest : ℕ) (p : List ℕ) {x : Refusal} → framing (unframe largest p) ≡ Err x → (unframe largest p ≡ Err x) × (x ≡ refusal_of (length p) x.number)
framing-unframed largest p {x} e =
    let r = framing-refused (unframe largest p) e in
    (r, whole-unframe largest p x r)
