use Prim.Native.Nat.{◌-◌}
use native.Mathlib.Omega.{arith}
use mathlib.Core.Path.{refl, ap, ◌∙◌}
use lib.Seq.{sets}
use lib.ListN.{length}
use Rattle.wire.specs.Numbers.{le}
use Rattle.store.proofs.StoredLaws.{stored-le}
use Rattle.store.proofs.CutLaws.{sets-cut, le-cut}
use Rattle.store.proofs.store_le.Goals as goal

pub returns-then-end-out : goal.returns-then-end-out
returns-then-end-out c = let args = c.args in record { value = refl; stored = stored-le args.w args.n args.to refl c.put_le.ensures }

pub returns-then-to-out : goal.returns-then-to-out
returns-then-to-out c = let args = c.args in
    let out = args.out.now in
    let room = length out - args.to in
    let cut = c.put_le-then-to-out.ensures ∙ ap (sets out args.to) (le-cut room args.w args.n (omega arith)) ∙ sets-cut out args.to room (le args.w args.n) (omega arith) in
    record { value = refl; stored = stored-le args.w args.n args.to refl cut }

pub returns-else-to-out : goal.returns-else-to-out
returns-else-to-out c = let args = c.args in record { value = refl; stored = stored-le args.w args.n args.to refl (sets-cut args.out.now args.to 0 (le args.w args.n) (omega arith)) }
