use Rattle.wire.specs.Numbers.{le, number_at}
use native.Mathlib.Omega.{arith}
use mathlib.Core.List.{◌++◌}
use mathlib.Core.Path.{refl}
use Prim.Native.Nat.{◌+◌}
use Rattle.traverse.proofs.CopyLaws.{on-pace}
use Rattle.form.proofs.TextLaws.{paced-element}
use Rattle.form.proofs.LeafLaws.{near, size-stands, id-inside, value-inside, size_small, value-long, element-copied}
use Rattle.store.specs.Stores.{Stored}
use Rattle.store.proofs.StoredLaws.{stored_on}
use Rattle.form.proofs.EntriesElementWriter.put_element.Goals as goal

pub value_at-value-requires : goal.value_at-value-requires
value_at-value-requires c = size-stands c.args.w.widths c.args.kind c.requires.ready

pub overflow_add-end : goal.overflow_add-end
overflow_add-end c = let h = value-inside c.args.w.widths c.args.kind c.requires.ready c.value_at-value.ensures in omega (arith, h, c.requires.ready.small)

pub short_number-number-requires : goal.short_number-number-requires
short_number-number-requires c = (id-inside c.args.w.widths c.args.kind c.requires.ready, c.args.w.narrow.id)

pub overflow_add-size : goal.overflow_add-size
overflow_add-size c = omega (arith, size_small c.args.w.widths c.args.kind c.requires.ready c.value_at-value.ensures)

pub put_head-requires : goal.put_head-requires
put_head-requires c = near c.requires.ready

pub slice_bounds-store_bytes-end : goal.slice_bounds-store_bytes-end
slice_bounds-store_bytes-end c = value-inside c.args.w.widths c.args.kind c.requires.ready c.value_at-value.ensures

pub store_bytes-requires : goal.store_bytes-requires
store_bytes-requires c = let h = c.value_at-value.ensures in
    omega (arith, near c.requires.ready, value-long c.args.w.widths c.args.kind c.requires.ready h, size_small c.args.w.widths c.args.kind c.requires.ready h)

pub overflow_add-result-2 : goal.overflow_add-result-2
overflow_add-result-2 c = omega (arith, size_small c.args.w.widths c.args.kind c.requires.ready c.value_at-value.ensures, near c.requires.ready)

pub returns : goal.returns
unfolding le
returns c = let args = c.args in
    let size = c.value_at-value.result.size in
    let head : Stored ((le 2 (2 + size) ++ le 2 args.kind) ++ le 2 (number_at args.s.now args.at args.w.widths.id)) args.out.now _ args.to _ = rw c.short_number-number.ensures at c.put_head.ensures in
    let copies = element-copied args.w.widths args.kind c.requires.ready c.value_at-value.ensures (stored_on head c.store_bytes.ensures refl) in
    record { copies = copies; pace = on-pace (paced-element args.w.widths args.kind c.requires.le_kind.0) c.requires.ready copies }
