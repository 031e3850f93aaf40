use Rattle.std.proofs.Common.{◌+◌, arith, rules}
use Rattle.std.proofs.lemmas.List.Edits.{get_or-between}
use Rattle.wire.proofs.Shifts.{number-one, number-or}
use Rattle.wire.proofs.Widths.{bytes-fit}
use Rattle.wire.specs.Numbers.{number_at}
use Rattle.wire.proofs.number.Goals as goal

pub loop-b-init : goal.loop-b-init
unfolding number_at
loop-b-init c = search rules

pub loop-b-preserved : goal.loop-b-preserved
loop-b-preserved c =
    let s = c.args.s.now in
    let at = c.args.at in
    let i = c.loop-b.b-index in
    cc (get_or-between s at (at + c.args.w) i 0 (omega arith), number-one s (at + i), number-or s at i 1 64 (bytes-fit s c.type_inv.s) (omega arith))
