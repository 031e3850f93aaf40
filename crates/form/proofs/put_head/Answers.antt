use Rattle.store.proofs.StoredLaws.{stored-le, stored_on, stored-then}
use Prim.Native.Nat.{◌+◌}
use native.Mathlib.Omega.{arith}
use mathlib.Core.Path.{refl}
use Rattle.wire.specs.Numbers.{le}
use Rattle.form.proofs.put_head.Goals as goal

pub returns-then-end-out : goal.returns-then-end-out
unfolding le
returns-then-end-out c = let args = c.args in
    let first = stored-le 2 args.size args.to refl c.put_le.ensures in
    let second = stored_on first (stored-le 2 args.kind (args.to + 2) refl c.put_le-then-end-out.ensures) refl in
    stored_on second (stored-le 2 args.id (args.to + 4) (omega arith) c.put_le-then-end-out-2.ensures) refl

pub returns : goal.returns
returns c = stored-then c.store_head-next.ensures.stored c.store_le.ensures.stored
