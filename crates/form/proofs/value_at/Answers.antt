use mathlib.Core.Path.{ap, ◌∙◌, sym}
use Rattle.wire.specs.Reading.{got}
use Prim.Native.Nat.{ℕ, ◌+◌}
use native.Mathlib.Omega.{arith}
use Rattle.wire.proofs.Walking.{number-got}
use Rattle.walk.proofs.WalkLaws.{variable-size, fixed-size}
use Rattle.form.proofs.value_at.Goals as goal

pub overflow_add-result : goal.overflow_add-result
overflow_add-result c = let h = c.requires c.if-kind-eq9.true in omega arith

pub be16-requires : goal.be16-requires
be16-requires c = c.requires c.if-kind-eq9.true

pub returns-then-kind-eq9 : goal.returns-then-kind-eq9
returns-then-kind-eq9 c = variable-size c.args.s.now c.args.at c.args.kind c.if-kind-eq9.true ∙ number-got 2 c.args.s.now c.args.at (c.requires c.if-kind-eq9.true) ∙ ap (λ (n : ℕ). got n (c.args.at + 2)) (sym c.be16.ensures)

pub returns : goal.returns
returns c = fixed-size c.args.s.now c.args.at c.args.kind c.if-kind-eq9.false
