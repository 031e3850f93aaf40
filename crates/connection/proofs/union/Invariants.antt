use Rattle.connection.specs.State.{is_zero}
use Rattle.wire.specs.Numbers.{pick}
use lib.Dec.{eqb}
use lib.ListN.{drop}
use mathlib.Core.Bool.{false}
use mathlib.Core.Path.{◌≡◌}
use Rattle.connection.proofs.union.Given as goal

abbrev pub invariant-loop-b : goal.invariant-loop-b
invariant-loop-b l = pick (eqb l.all 0) (is_zero (drop l.b-index l.s)) false ≡ is_zero l.s
