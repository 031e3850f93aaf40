-- A line has a comma between its fields and nowhere else, and one LF, at its end.
use Prim.Native.Nat.{ℕ, suc, ◌+◌, ◌-◌}
use native.Mathlib.Omega.{arith}
use mathlib.Core.Path.{◌≡◌, refl, ap}
use mathlib.Core.Bool.{false}
use mathlib.Core.List.{List, [], ◌∷◌, ◌++◌}
use lib.ListN.{length}
use lib.Dec.{eqb}
use Rattle.wire.specs.Sequences.{All}
use Rattle.wire.proofs.Widths.{all_append}
use Rattle.line.specs.Pieces.{separated, count}
use Rattle.line.specs.Lines.{Printed, Line, LineRules, texts, line_fields, line_bytes}
use Rattle.line.proofs.Cases.{all-weaken}
use Rattle.line.proofs.PieceLaws.{Free, field-comma, field_end}
use Rattle.line.proofs.LineLaws.{fields-field}

count-append : (c : ℕ) (s t : List ℕ) → count c (s ++ t) ≡ count c s + count c t
unfolding count
count-append c [] t = omega arith
count-append c (b ∷ s) t = omega (arith, count-append c s t)

count-free : (c : ℕ) (s : List ℕ) → Free c s → count c s ≡ 0
unfolding count
count-free c [] h = refl
count-free c (b ∷ s) h = simp h.0 (omega (arith, count-free c s h.1))

count-separated : (ps : List (List ℕ)) → All (Free 44) ps → count 44 (separated ps) ≡ length ps - 1
unfolding separated count
count-separated [] h = refl
count-separated (p ∷ []) h = count-free 44 p h.0
count-separated (p ∷ q ∷ ps) h =
    omega (arith, count-append 44 p (44 ∷ separated (q ∷ ps)), count-free 44 p h.0, count-separated (q ∷ ps) h.1)

free-separated : (c : ℕ) (ps : List (List ℕ)) → eqb 44 c ≡ false → All (Free c) ps → Free c (separated ps)
unfolding separated
free-separated c [] e h = tt
free-separated c (p ∷ []) e h = h.0
free-separated c (p ∷ q ∷ ps) e h = all_append (λ b. eqb b c ≡ false) p (44 ∷ separated (q ∷ ps)) h.0 (e, free-separated c (q ∷ ps) e h.1)

pub length-texts : (es : List Printed) → length (texts es) ≡ length es
unfolding texts
length-texts [] = refl
length-texts (e ∷ es) = ap suc (length-texts es)

module _ (l : Line) (h : LineRules l) where
  pub line-commas : count 44 (line_bytes l) ≡ 3 + length l.elements
  unfolding line_bytes line_fields count
  line-commas =
      omega (
        arith,
        count-append 44 (separated (line_fields l)) (10 ∷ []),
        count-separated (line_fields l) (all-weaken field-comma (line_fields l) (fields-field l h)),
        length-texts l.elements,
      )

  pub line-ends : count 10 (line_bytes l) ≡ 1
  unfolding line_bytes count
  line-ends =
      let t = separated (line_fields l) in
      omega (arith, count-append 10 t (10 ∷ []), count-free 10 t (free-separated 10 (line_fields l) refl (all-weaken field_end (line_fields l) (fields-field l h))))
