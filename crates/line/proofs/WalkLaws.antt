-- Where the fields of a line start, and an element by its number and by its place.
use Rattle.std.specs.Prelude.{Ok}
use Prim.Native.Nat.{ℕ, zero, suc, ◌+◌, ◌<◌}
use native.Mathlib.Omega.{arith}
use mathlib.Core.Path.{◌≡◌, refl, sym, ap, ap₂, ◌∙◌}
use mathlib.Core.Bool.{false}
use mathlib.Core.List.{List, [], ◌∷◌, ◌++◌}
use lib.ListN.{length, drop, get_or}
use lib.Seq.{drop-cons, drop-append-add}
use Rattle.wire.proofs.Accepting.{on_accepted-passed}
use Rattle.element.specs.Elements.{nth}
use Rattle.lookup.proofs.PlaceLaws.{nth-member}
use Rattle.line.specs.Pieces.{before, pieces, separated}
use Rattle.line.specs.Lines.{Printed, Line, PrintedRules, printed_text, texts, line_fields}
use Rattle.line.specs.LineReader.{read_printed, body, read_line}
use Rattle.line.specs.LineElements.{start_from, field_start, field_at, element_of, element_at}
use Rattle.line.proofs.Cases.{all_get_d}
use Rattle.line.proofs.PieceLaws.{Free, before-free, before-whole, pieces-free, separated-pieces}
use Rattle.line.proofs.PrintedLaws.{printed-inverse}
use Rattle.line.proofs.LineLaws.{line-inverse, read-pieces}

-- ---- where fields start

pub start-next : (n at : ℕ) (ps : List (List ℕ)) → n < length ps → start_from (suc n) at ps ≡ start_from n at ps + suc (length (get_or ps n []))
unfolding start_from
start-next n at [] h = absurd (omega arith)
start-next zero at (p ∷ ps) h = refl
start-next (suc n) at (p ∷ ps) h = start-next n (at + suc (length p)) ps (omega arith)

start-moved : (n a b : ℕ) (ps : List (List ℕ)) → start_from n (a + b) ps ≡ a + start_from n b ps
unfolding start_from
start-moved zero a b ps = refl
start-moved (suc n) a b [] = refl
start-moved (suc n) a b (p ∷ ps) =
    let same : a + b + suc (length p) ≡ a + (b + suc (length p)) = omega arith in
    ap (λ (k : ℕ). start_from n k ps) same ∙ start-moved n a (b + suc (length p)) ps

drop-start : (n : ℕ) (ps : List (List ℕ)) → n < length ps → drop (start_from n 0 ps) (separated ps) ≡ separated (drop n ps)
unfolding start_from separated
drop-start n [] h = absurd (omega arith)
drop-start zero (p ∷ ps) h = refl
drop-start (suc n) (p ∷ []) h = absurd (omega arith)
drop-start (suc n) (p ∷ q ∷ ps) h =
    let rest = separated (q ∷ ps) in
    let k = start_from n 0 (q ∷ ps) in
    let moved : start_from n (0 + suc (length p)) (q ∷ ps) ≡ length p + suc k =
    ap (λ (j : ℕ). start_from n j (q ∷ ps)) (omega arith) ∙ start-moved n (suc (length p)) 0 (q ∷ ps) ∙ omega arith
    in
    ap (λ (j : ℕ). drop j (p ++ (44 ∷ rest))) moved ∙ drop-append-add p (44 ∷ rest) (suc k) ∙ drop-start n (q ∷ ps) (omega arith)

before-separated : (p : List ℕ) (ps : List (List ℕ)) → Free 44 p → before 44 (separated (p ∷ ps)) ≡ p
unfolding separated
before-separated p [] h = before-whole 44 p h
before-separated p (q ∷ ps) h = before-free 44 p (separated (q ∷ ps)) h

pub field_of : (t : List ℕ) (n : ℕ) → n < length (pieces t) → before 44 (drop (start_from n 0 (pieces t)) t) ≡ get_or (pieces t) n []
field_of t n h =
    let ps = pieces t in
    ap (λ (x : List ℕ). before 44 (drop (start_from n 0 ps) x)) (sym (separated-pieces t))
    ∙ ap (before 44) (drop-start n ps h ∙ ap separated (drop-cons ps n [] h))
    ∙ before-separated (get_or ps n []) (drop (suc n) ps) (all_get_d (Free 44) ps n [] (pieces-free t) tt)

-- ---- elements

nth-text : (k : ℕ) (es : List Printed) (e : Printed) → nth k es ≡ Ok e → (k < length (texts es)) × (get_or (texts es) k [] ≡ printed_text e)
unfolding nth texts
nth-text k [] e h = absurd (let z : ◌≡◌ {A = ℕ} 0 1 = cc in omega arith)
nth-text zero (a ∷ es) e h = let same : a ≡ e = cc in (omega arith, ap printed_text same)
nth-text (suc k) (a ∷ es) e h = let i = nth-text k es e h in (omega (arith, i.0), i.1)

module _ (s : List ℕ) (l : Line) (read : read_line s ≡ Ok l) (k : ℕ) (e : Printed) (there : nth k l.elements ≡ Ok e) where
  element-field : (4 + k < length (pieces (body s))) × (get_or (pieces (body s)) (4 + k) [] ≡ printed_text e)
  unfolding line_fields
  element-field =
      let i = nth-text k l.elements e there in
      let same = read-pieces s l read in
      let four : 4 + k ≡ suc (suc (suc (suc k))) = omega arith in (
        omega (arith, i.0, ap length same),
        ap₂ (λ (ps : List (List ℕ)) (n : ℕ). get_or ps n []) same four ∙ i.1,
      )

  element-is : field_at s (field_start s (4 + k)) ≡ printed_text e
  element-is = field_of (body s) (4 + k) element-field.0 ∙ element-field.1

  pub element-stands : (read_printed false (field_at s (field_start s (4 + k))) ≡ Ok e)
      × (field_start s (5 + k) ≡ field_start s (4 + k) + suc (length (field_at s (field_start s (4 + k)))))
  element-stands =
      let five : 5 + k ≡ suc (4 + k) = omega arith in
      let rules = nth-member k l.elements e there PrintedRules (line-inverse.exact s l read).0.each in (
        ap (read_printed false) element-is ∙ printed-inverse.undo e rules,
        ap (field_start s) five ∙ start-next (4 + k) 0 (pieces (body s)) element-field.0
            ∙ ap (λ (x : List ℕ). field_start s (4 + k) + suc (length x)) (sym (field_of (body s) (4 + k) element-field.0)),
      )

  pub element-cursor : element_of s k ≡ element_at s (field_start s (4 + k))
  unfolding element_of element_at
  element-cursor =
      on_accepted-passed (read_line s) _ read
      ∙ on_accepted-passed (nth k l.elements) _ there
      ∙ ap (λ (n : ℕ). Ok (record { content = e; next = n })) element-stands.1
      ∙ sym (on_accepted-passed (read_printed false (field_at s (field_start s (4 + k)))) _ element-stands.0)
