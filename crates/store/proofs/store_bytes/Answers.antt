use Prim.Native.Nat.{◌-◌}
use native.Mathlib.Omega.{arith}
use mathlib.Core.Path.{◌∙◌}
use lib.ListN.{length}
use Rattle.store.proofs.StoredLaws.{stored_of}
use Rattle.store.proofs.CutLaws.{sets-cut}
use Rattle.store.proofs.store_bytes.Goals as goal

pub returns-then-to-out : goal.returns-then-to-out
returns-then-to-out c = let args = c.args in
    let out = args.out.now in
    let room = length out - args.to in
    stored_of args.src.now (c.put_bytes-then-to-out.ensures ∙ sets-cut out args.to room args.src.now (omega arith))

pub returns-else-to-out : goal.returns-else-to-out
returns-else-to-out c = let args = c.args in stored_of args.src.now (sets-cut args.out.now args.to 0 args.src.now (omega arith))
