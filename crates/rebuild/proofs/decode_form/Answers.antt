use Rattle.rebuild.proofs.RunLaws.{goes_before}
use Rattle.rebuild.proofs.Bounds.{records-room}
use Rattle.rebuild.proofs.LayoutLaws.{data-at}
use Rattle.store.proofs.StoredLaws.{stored-then, stored-as}
use lib.ListN.{get_or}
use mathlib.Core.List.{List}
use mathlib.Core.Path.{ap, ◌∙◌}
use native.Mathlib.Omega.{arith}
use Prim.Native.Nat.{ℕ}
use Rattle.rebuild.proofs.decode_form.Goals as goal

pub put_records-records-requires-clause-from_bound : goal.put_records-records-requires-clause-from_bound
put_records-records-requires-clause-from_bound c = omega (arith, c.store_be-a1.ensures.value, records-room c.widths_of.result.widths c.widths_of.result.narrow c.args.f.now c.next_at-from.result c.requires)

pub store_be-requires-2 : goal.store_be-requires-2
store_be-requires-2 c = omega (arith, c.store_be-a1.ensures.value, c.put_records-records.ensures.stored.place, records-room c.widths_of.result.widths c.widths_of.result.narrow c.args.f.now c.next_at-from.result c.requires)

pub returns : goal.returns
returns c = let codec = c.byte_or_zero-codec.ensures ∙ ap (λ (b : List ℕ). get_or b 0 0) c.entry_body.ensures in
    let counted = goes_before c.store_be.ensures.stored c.store_be.ensures.value c.put_records-records.ensures in
    let done = stored-as (data-at c.args.f.now c.byte_or_zero-codec.result c.next_at-from.result c.put_records-records.result.count c.widths_of.result.widths codec c.next_at-from.ensures c.widths_of.ensures c.put_records-records.ensures.told)
    (stored-then c.store_be-a1.ensures.stored (stored-then counted.stored c.store_be-2.ensures.stored)) in record { size = omega (arith, done.place); buffer = done.buffer }
