use Rattle.connection.proofs.PaddedLaws.{zeros-front}
use Rattle.std.proofs.Common.{ℕ, List, ◌++◌, ◌∙◌, drop}
use mathlib.Core.Path.{ap}
use Rattle.connection.proofs.clear.Goals as goal

pub returns : goal.returns
returns c = ap (λ (l : List ℕ). l ++ drop c.args.n c.args.s.now) (c.fill.ensures.after (λ y e. e)) ∙ zeros-front c.args.s.now c.args.n c.requires
