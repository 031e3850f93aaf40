use Rattle.rebuild.proofs.RunLaws.{goes_before}
use Rattle.store.proofs.StoredLaws.{stored-as}
use Rattle.store.specs.Entries.{entries_at}
use Rattle.tlv.specs.Decoding.{run}
use Rattle.avl.specs.Records.{element_bytes, group_bytes}
use Rattle.wire.proofs.Widths.{length_digits}
use Rattle.wire.specs.Sequences.{joined}
use Rattle.wire.specs.Numbers.{be}
use lib.ListN.{length, length-append}
use mathlib.Core.Path.{ap}
use native.Mathlib.Omega.{arith}
use Rattle.rebuild.proofs.put_group.Goals as goal

pub put_run-elements-requires-clause-from_bound : goal.put_run-elements-requires-clause-from_bound
unfolding group_bytes
put_run-elements-requires-clause-from_bound c = let w = c.args.w.widths in
    let kind = c.args.kind in
    let g = run kind (entries_at c.args.f.now c.args.from) in
    omega (arith, c.requires.from_bound, length-append (be w.count (length g)) (joined (element_bytes w kind) g), length_digits 256 w.count (length g))

pub returns : goal.returns
unfolding group_bytes
returns c = goes_before (stored-as (ap (be c.args.w.widths.count) c.put_run-elements.ensures.told) c.store_be.ensures.stored) c.store_be.ensures.value c.put_run-elements.ensures
