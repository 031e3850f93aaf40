use native.Mathlib.Omega.{arith}
use Rattle.store.proofs.StoredLaws.{stored-then}
use Rattle.store.proofs.store_head.Goals as goal

pub returns : goal.returns
returns c = record { value = omega (arith, c.store_le-next.ensures.value, c.store_le.ensures.value); stored = stored-then c.store_le-next.ensures.stored c.store_le.ensures.stored }
