use Rattle.connection.specs.Feeding.{lent_as, item_as, outcome}
use Rattle.connection.specs.State.{kept}
use mathlib.Core.Path.{refl}
use Rattle.connection.proofs.closing.Goals as goal

pub returns : goal.returns
unfolding lent_as item_as outcome kept
returns c = refl
