-- A parser and a writer that undo each other.
use Rattle.std.specs.Prelude.{Ok}
use Prim.Native.Nat.{ℕ}
use mathlib.Core.Path.{◌≡◌}
use mathlib.Core.List.{List}
use Rattle.wire.specs.Answers.{Answer}

-- what was written is read, and nothing else
pub record Inverse {A : Type 0} (parse : List ℕ → Answer A) (write : A → List ℕ) (Rules : A → Type 0) : Type 0 where
  pub undo : (a : A) → Rules a → parse (write a) ≡ Ok a
  pub exact : (s : List ℕ) (a : A) → parse s ≡ Ok a → Rules a × (s ≡ write a)
