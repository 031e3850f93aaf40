-- The kinds of a record's groups, by their numbers.
use Prim.Native.Nat.{ℕ, zero, suc, ◌+◌, ◌*◌, ◌%◌, ◌^◌, ◌≤◌, ◌<◌}
use native.Mathlib.Numerals.{add-one}
use native.Mathlib.Omega.{arith}
use mathlib.Core.Path.{◌≡◌, refl, sym, ap₂, subst, ◌∙◌}
use mathlib.Core.Bool.{Bool, true, false}
use mathlib.Core.List.{List, [], ◌∷◌}
use lib.ListN.{length, drop, get_or}
use lib.Seq.{drop-cons, get_or-take}
use Rattle.wire.specs.Numbers.{pick}
use Rattle.wire.specs.Sequences.{All}
use Rattle.wire.proofs.Accepting.{pick-either}
use Rattle.avl.specs.declared.Widths.{Widths}
use Rattle.avl.specs.Codecs.{kinds, all_kinds}

abbrev pub KindRange : ℕ → Type 0
KindRange k = (1 ≤ k) × (k ≤ 9)

all_get_d : (P : ℕ → Type 0) (l : List ℕ) (k : ℕ) → All P l → k < length l → P (get_or l k 0)
all_get_d P [] k h i = absurd (omega arith)
all_get_d P (x ∷ l) zero h i = h.0
all_get_d P (x ∷ l) (suc k) h i = all_get_d P l k h.1 (omega arith)

-- a value of the first four kinds has at most eight bytes
pub fixed-kind : (k : ℕ) → k < 4 → get_or all_kinds k 0 ≤ 8
fixed-kind zero h = omega arith
fixed-kind (suc zero) h = omega arith
fixed-kind (suc (suc zero)) h = omega arith
fixed-kind (suc (suc (suc zero))) h = omega arith
fixed-kind (suc (suc (suc (suc k)))) h = absurd (omega arith)

-- and is a power of two
pub shifted-kind : (k : ℕ) → k < 4 → 1 * 2 ^ k % 2 ^ 64 ≡ get_or all_kinds k 0
shifted-kind zero h = refl
shifted-kind (suc zero) h = refl
shifted-kind (suc (suc zero)) h = refl
shifted-kind (suc (suc (suc zero))) h = refl
shifted-kind (suc (suc (suc (suc k)))) h = absurd (omega arith)

module _ (w : Widths) where
  pub kinds-range : All KindRange (kinds w)
  unfolding kinds
  kinds-range = (omega arith, (omega arith, (omega arith, (omega arith, pick-either (All KindRange) w.variable (9 ∷ []) [] (omega arith, tt) tt))))

  pub kinds-few : length (kinds w) ≤ 5
  unfolding kinds
  kinds-few = pick-either (λ (ks : List ℕ). length (1 ∷ 2 ∷ 4 ∷ 8 ∷ ks) ≤ 5) w.variable (9 ∷ []) [] (omega arith) (omega arith)

  pub kinds-four : 4 ≤ length (kinds w)
  unfolding kinds
  kinds-four = omega arith

  module _ (k : ℕ) (h : k < length (kinds w)) where
    pub kind-known : get_or all_kinds k 0 ≡ get_or (kinds w) k 0
    unfolding kinds
    kind-known = go w.variable h
      where
        given : Bool → List ℕ
        given b = 1 ∷ 2 ∷ 4 ∷ 8 ∷ pick b (9 ∷ []) []

        go : (b : Bool) → k < length (given b) → get_or all_kinds k 0 ≡ get_or (given b) k 0
        go true i = refl
        go false i = sym (get_or-take 4 all_kinds k 0 i)

    module _ {kind : ℕ} (e : kind ≡ get_or (kinds w) k 0) where
      pub kind-range : KindRange kind
      kind-range = subst KindRange (sym e) (all_get_d KindRange (kinds w) k kinds-range h)

      pub next-kind : drop k (kinds w) ≡ kind ∷ drop (k + 1) (kinds w)
      next-kind = drop-cons (kinds w) k 0 h ∙ ap₂ (λ (x y : ℕ). x ∷ drop y (kinds w)) (sym e) (sym (add-one k))
