use mathlib.Core.Path.{ap}
use Rattle.connection.specs.declared.Started.{Started}
use Rattle.connection.proofs.Connection.reset.Goals as goal

pub returns : goal.returns
returns c = ap (λ (s : Started). s.state) c.start-started.ensures
