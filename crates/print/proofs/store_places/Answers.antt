use mathlib.Core.List.{[], ◌∷◌}
use Rattle.print.proofs.DegreeLaws.{stored-full, places, stored-places, length-places}
use native.Mathlib.Omega.{arith}
use mathlib.Core.Path.{refl}
use Rattle.print.proofs.store_places.Goals as goal

pub overflow_add-end : goal.overflow_add-end
overflow_add-end c = omega (arith, c.requires)

pub put_places-requires : goal.put_places-requires
put_places-requires c = c.if-end-out.true

pub returns-then-end-out : goal.returns-then-end-out
returns-then-end-out c = stored-places c.args.n c.args.to refl c.put_places.ensures

pub put_places-requires-2 : goal.put_places-requires-2
put_places-requires-2 c = omega arith

pub store_bytes-requires : goal.store_bytes-requires
store_bytes-requires c = omega (arith, c.requires)

pub returns : goal.returns
returns c = stored-full (0 ∷ 0 ∷ 0 ∷ 0 ∷ 0 ∷ 0 ∷ 0 ∷ 0 ∷ []) (46 ∷ places 7 c.args.n) (omega (arith, length-places 7 c.args.n)) (rw c.put_places-2.ensures at c.store_bytes.ensures)
