-- 05, 06, and 11 where the row has it.
use Prim.Native.Nat.{ℕ}
use mathlib.Core.Path.{◌≡◌, refl}
use mathlib.Core.Bool.{Bool, true, false}
use mathlib.Core.List.{[], ◌∷◌}
use lib.Dec.{eqb}
use native.Mathlib.Omega.{arith}
use borrow.Author.Tests.{eq-eqb, ne_eqb, eqb-false}
use Rattle.wire.specs.Numbers.{pick}
use Rattle.command.specs.Layouts.{types, member}
use Rattle.command.proofs.allows.Goals as goal

-- 11 is among the types of a row that has it
last : (kind : ℕ) (b : Bool) → pick (eqb kind 0x11) b false ≡ member kind (pick b (0x11 ∷ []) [])
last kind true = refl
last kind false = either (eqb kind 0x11)
  where
    either : (t : Bool) → pick t false false ≡ false
    either true = refl
    either false = refl

pub returns-in-5 : goal.returns-in-5
unfolding types
returns-in-5 c = either (eqb c.args.kind 5) (eqb c.args.kind 6) refl refl
  where
    either : (x y : Bool) → eqb c.args.kind 5 ≡ x → eqb c.args.kind 6 ≡ y → true ≡ pick x true (pick y true (member c.args.kind (pick c.args.l.mismatch (0x11 ∷ []) [])))
    either true y e f = refl
    either false true e f = refl
    either false false e f = absurd (omega (arith, eqb-false c.args.kind 5 e, eqb-false c.args.kind 6 f))

pub returns-in-17 : goal.returns-in-17
unfolding types
returns-in-17 c = simp (eq-eqb c.args.kind 17 c.in-17.is, ne_eqb c.args.kind 5 (λ e. omega (arith, c.in-17.is, e)), ne_eqb c.args.kind 6 (λ e. omega (arith, c.in-17.is, e)), ← last c.args.kind c.args.l.mismatch)

pub returns-in_default : goal.returns-in_default
unfolding types
returns-in_default c = simp (← last c.args.kind c.args.l.mismatch, ne_eqb c.args.kind 5 (λ e. omega arith), ne_eqb c.args.kind 6 (λ e. omega arith), ne_eqb c.args.kind 17 (λ e. omega arith))

pub returns-in_default-2 : goal.returns-in_default-2
unfolding types
returns-in_default-2 c = simp (← last c.args.kind c.args.l.mismatch, ne_eqb c.args.kind 5 (λ e. omega arith), ne_eqb c.args.kind 6 (λ e. omega arith), ne_eqb c.args.kind 17 (λ e. omega arith))
