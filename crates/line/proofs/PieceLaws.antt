-- Text taken apart at a byte, and put together again.
use Prim.Native.Nat.{ℕ, suc, ◌≤◌, ◌<◌}
use native.Mathlib.Omega.{arith}
use mathlib.Core.Path.{◌≡◌, refl, sym, ap, ◌∙◌, subst}
use mathlib.Core.Bool.{false}
use mathlib.Core.List.{List, [], ◌∷◌, ◌++◌}
use lib.ListN.{length, drop}
use lib.Dec.{eqb}
use borrow.Author.Tests.{eqb-true, eq-eqb, ne_eqb}
use Rattle.wire.specs.Sequences.{All}
use Rattle.wire.proofs.Accepting.{pick-false}
use Rattle.line.specs.Pieces.{before, behind, onto, pieces, separated}
use Rattle.line.proofs.Cases.{by-test, all-weaken}

-- ---- before and behind the first of a byte

pub before-short : (c : ℕ) (s : List ℕ) → length (before c s) ≤ length s
unfolding before
before-short c [] = omega arith
before-short c (b ∷ s) = by-test (eqb b c) (λ e. simp e (omega arith)) (λ e. simp e (omega (arith, before-short c s)))

pub behind-is : (c : ℕ) (s : List ℕ) → length (before c s) < length s → behind c s ≡ drop (suc (length (before c s))) s
unfolding before behind
behind-is c [] h = absurd (omega arith)
behind-is c (b ∷ s) h = by-test (eqb b c) (λ e. simp e) (λ e. simp e (behind-is c s (omega (arith, simp e at h))))

pub split-some : (c : ℕ) (s : List ℕ) → 1 ≤ length (behind c s) → s ≡ before c s ++ (c ∷ behind c s)
unfolding before behind
split-some c [] h = absurd (omega arith)
split-some c (b ∷ s) h =
    by-test (eqb b c) (λ e. simp e (ap (λ (x : ℕ). x ∷ s) (eqb-true b c e))) (λ e. simp e (ap (λ (l : List ℕ). b ∷ l) (split-some c s (simp e at h))))

pub split_at : (c : ℕ) (s : List ℕ) {b : ℕ} {t : List ℕ} → behind c s ≡ b ∷ t → s ≡ before c s ++ (c ∷ behind c s)
split_at c s h = split-some c s (omega (arith, ap length h))

-- ---- text without a byte

-- no byte of it is c
abbrev pub Free : ℕ → List ℕ → Type 0
Free c s = All (λ b. eqb b c ≡ false) s

-- what holds of each of its bytes does not hold of c
pub all-free : (P : ℕ → Type 0) (c : ℕ) → (P c → ⊥) → (s : List ℕ) → All P s → Free c s
all-free P c other s h = all-weaken (λ b k. ne_eqb b c (λ e. other (subst P e k))) s h

-- a byte that may stand in a field: printable, and no comma
abbrev pub InField : ℕ → Type 0
InField c = (32 ≤ c) × (c ≤ 126) × (eqb c 44 ≡ false)

pub field-comma : (s : List ℕ) → All InField s → Free 44 s
field-comma s h = all-free InField 44 (λ k. let z : ◌≡◌ {A = ℕ} 0 1 = cc k.2 in omega arith) s h

pub field_end : (s : List ℕ) → All InField s → Free 10 s
field_end s h = all-free InField 10 (λ k. omega (arith, k.0)) s h

pub before-free : (c : ℕ) (p q : List ℕ) → Free c p → before c (p ++ (c ∷ q)) ≡ p
unfolding before
before-free c [] q h = simp (eq-eqb c c refl)
before-free c (b ∷ p) q h = simp h.0 (ap (λ (l : List ℕ). b ∷ l) (before-free c p q h.1))

pub before-whole : (c : ℕ) (p : List ℕ) → Free c p → before c p ≡ p
unfolding before
before-whole c [] h = refl
before-whole c (b ∷ p) h = simp h.0 (ap (λ (l : List ℕ). b ∷ l) (before-whole c p h.1))

pub behind-free : (c : ℕ) (p q : List ℕ) → Free c p → behind c (p ++ (c ∷ q)) ≡ q
unfolding behind
behind-free c [] q h = simp (eq-eqb c c refl)
behind-free c (b ∷ p) q h = simp h.0 (behind-free c p q h.1)

-- ---- pieces

pub pieces-last : (s : List ℕ) → length (before 44 s) ≡ length s → pieces s ≡ before 44 s ∷ []
unfolding before pieces onto
pieces-last [] h = refl
pieces-last (b ∷ s) h =
    by-test (eqb b 44) (λ e. absurd (omega (arith, simp e at h)))
    (λ e. simp e (ap (onto b) (pieces-last s (omega (arith, simp e at h)))))

pub pieces_more : (s : List ℕ) → length (before 44 s) < length s → pieces s ≡ before 44 s ∷ pieces (drop (suc (length (before 44 s))) s)
unfolding before pieces onto
pieces_more [] h = absurd (omega arith)
pieces_more (b ∷ s) h =
    by-test (eqb b 44) (λ e. simp e)
    (λ e. simp e (ap (onto b) (pieces_more s (omega (arith, simp e at h)))))

pieces-one : (p : List ℕ) → Free 44 p → pieces p ≡ p ∷ []
unfolding pieces onto
pieces-one [] h = refl
pieces-one (b ∷ p) h = simp h.0 (ap (onto b) (pieces-one p h.1))

pieces-join : (p q : List ℕ) → Free 44 p → pieces (p ++ (44 ∷ q)) ≡ p ∷ pieces q
unfolding pieces onto
pieces-join [] q h = refl
pieces-join (b ∷ p) q h = simp h.0 (ap (onto b) (pieces-join p q h.1))

pub pieces-separated : (ps : List (List ℕ)) → All (Free 44) ps → 1 ≤ length ps → pieces (separated ps) ≡ ps
unfolding separated
pieces-separated [] h k = absurd (omega arith)
pieces-separated (p ∷ []) h k = pieces-one p h.0
pieces-separated (p ∷ q ∷ ps) h k =
    pieces-join p (separated (q ∷ ps)) h.0 ∙ ap (λ (l : List (List ℕ)). p ∷ l) (pieces-separated (q ∷ ps) h.1 (omega arith))

separated-onto : (b : ℕ) (ps : List (List ℕ)) → separated (onto b ps) ≡ b ∷ separated ps
unfolding separated onto
separated-onto b [] = refl
separated-onto b (p ∷ []) = refl
separated-onto b (p ∷ q ∷ ps) = refl

separated-comma : (ps : List (List ℕ)) → 1 ≤ length ps → separated ([] ∷ ps) ≡ 44 ∷ separated ps
unfolding separated
separated-comma [] h = absurd (omega arith)
separated-comma (p ∷ ps) h = refl

length-onto : (b : ℕ) (ps : List (List ℕ)) → 1 ≤ length (onto b ps)
unfolding onto
length-onto b [] = omega arith
length-onto b (p ∷ ps) = omega arith

pieces-some : (s : List ℕ) → 1 ≤ length (pieces s)
unfolding pieces
pieces-some [] = omega arith
pieces-some (b ∷ s) = by-test (eqb b 44) (λ e. simp e (omega arith)) (λ e. simp e (length-onto b (pieces s)))

pub separated-pieces : (s : List ℕ) → separated (pieces s) ≡ s
unfolding pieces separated
separated-pieces [] = refl
separated-pieces (b ∷ s) =
    by-test (eqb b 44)
    (λ e. simp e (separated-comma (pieces s) (pieces-some s) ∙ ap (λ (l : List ℕ). 44 ∷ l) (separated-pieces s) ∙ ap (λ (x : ℕ). x ∷ s) (sym (eqb-true b 44 e))))
    (λ e. simp e (separated-onto b (pieces s) ∙ ap (λ (l : List ℕ). b ∷ l) (separated-pieces s)))

onto-free : (b : ℕ) (ps : List (List ℕ)) → eqb b 44 ≡ false → All (Free 44) ps → All (Free 44) (onto b ps)
unfolding onto
onto-free b [] e h = ((e, tt), tt)
onto-free b (p ∷ ps) e h = ((e, h.0), h.1)

pub pieces-free : (s : List ℕ) → All (Free 44) (pieces s)
unfolding pieces
pieces-free [] = (tt, tt)
pieces-free (b ∷ s) =
    by-test (eqb b 44) (λ e. simp e (tt, pieces-free s))
    (λ e. subst (All (Free 44)) (sym (pick-false (eqb b 44) _ _ e)) (onto-free b (pieces s) e (pieces-free s)))
