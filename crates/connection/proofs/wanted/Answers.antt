use Rattle.connection.specs.State.{wanted}
use mathlib.Core.Path.{ap, ◌∙◌}
use Prim.Native.Nat.{ℕ, ◌-◌}
use Rattle.connection.proofs.wanted.Goals as goal

pub returns : goal.returns
unfolding wanted
returns c = rw (← c.limits_of.ensures) (c.saturating_sub.ensures ∙ ap (λ (n : ℕ). n - c.args.fill) c.judged_at.ensures)
