-- Frames that are joined one behind the other can be taken apart in one way only.
use Prim.Native.Nat.{ℕ}
use native.Mathlib.Omega.{arith}
use mathlib.Core.Path.{◌≡◌, refl, sym, ap, ap₂, ◌∙◌}
use mathlib.Core.List.{List, [], ◌∷◌, ◌++◌}
use lib.ListN.{length, drop, length-append}
use lib.Seq.{drop_at}
use Rattle.wire.specs.Sequences.{joined, All}
use Rattle.wire.proofs.Placed.{Between}
use Rattle.frame.specs.Frame.{framed, field_of, IsFrame}
use Rattle.frame.proofs.FrameLaws.{length-framed, parts}

in-front : (a b : List ℕ) → Between (a ++ b) 0 a (length a)
in-front a b =
    record { layout = ap (λ (l : List ℕ). a ++ l) (sym (drop_at a b (length a) refl)); inside = omega (arith, length-append a b); size = omega arith }

-- the first of two frames is known from the joined bytes, and so is the rest
first_frame : (p q x y : List ℕ) → IsFrame p → IsFrame q → p ++ x ≡ q ++ y → (p ≡ q) × (x ≡ y)
first_frame p q x y f g e =
    let d = f.field in
    let c = g.field in
    let u = framed d ++ x in
    let v = framed c ++ y in
    let same : u ≡ v = ap (λ (l : List ℕ). l ++ x) (sym f.whole) ∙ e ∙ ap (λ (l : List ℕ). l ++ y) g.whole in
    let field : d ≡ c =
    sym (parts d u _ f.bytes f.counted (in-front (framed d) x)).field ∙ ap field_of same ∙ (parts c v _ g.bytes g.counted (in-front (framed c) y)).field
    in
    let equal : p ≡ q = f.whole ∙ ap framed field ∙ sym g.whole in
    (equal, sym (drop_at p x (length p) refl) ∙ ap (drop (length p)) e ∙ drop_at q y (length p) (ap length (sym equal)))

not-empty : (p x : List ℕ) → IsFrame p → [] ≡ p ++ x → ⊥
not-empty p x f e = omega (arith, ap length e, length-append p x, ap length f.whole, length-framed f.field)

pub one_way : (ps qs : List (List ℕ)) → All IsFrame ps → All IsFrame qs → joined (λ p. p) ps ≡ joined (λ p. p) qs → ps ≡ qs
one_way [] [] h k e = refl
one_way [] (q ∷ qs) h k e = absurd (not-empty q (joined (λ p. p) qs) k.0 e)
one_way (p ∷ ps) [] h k e = absurd (not-empty p (joined (λ p. p) ps) h.0 (sym e))
one_way (p ∷ ps) (q ∷ qs) h k e =
    let f = first_frame p q (joined (λ p. p) ps) (joined (λ p. p) qs) h.0 k.0 e in
    ap₂ (λ (a : List ℕ) (l : List (List ℕ)). a ∷ l) f.0 (one_way ps qs h.1 k.1 f.1)
