use native.Mathlib.Omega.{arith}
use mathlib.Core.Path.{refl}
use lib.ListN.{length-take, length-drop}
use Rattle.store.proofs.StoredLaws.{stored_on, stored-then}
use Rattle.print.proofs.DegreeLaws.{stored-mark}
use Rattle.print.proofs.ElementLaws.{near, near-marked, value-ready, value-inside, fixed-size, tag-copied, number-copied, paced-element}
use Rattle.traverse.proofs.CopyLaws.{on-pace}
use Rattle.print.proofs.LinesElementWriter.put_element.Goals as goal

pub element_value-v-requires : goal.element_value-v-requires
element_value-v-requires c = record { kind_bound = c.requires.le_kind.1; readable_element = value-ready c.args.w.widths c.args.kind c.requires.ready }

pub overflow_add-end : goal.overflow_add-end
overflow_add-end c = omega (arith, value-inside c.args.w.widths c.args.kind c.requires.ready c.element_value-v.ensures, c.requires.ready.small)

pub store_marked-mark-requires : goal.store_marked-mark-requires
store_marked-mark-requires c = omega (arith, near c.requires.ready)

pub store_byte-requires : goal.store_byte-requires
store_byte-requires c = tt

pub overflow_add-mark : goal.overflow_add-mark
overflow_add-mark c = omega (arith, near-marked c.requires.ready 44 _ c.store_marked-mark.ensures)

pub slice_bounds-store_quoted-end : goal.slice_bounds-store_quoted-end
slice_bounds-store_quoted-end c = value-inside c.args.w.widths c.args.kind c.requires.ready c.element_value-v.ensures

pub store_quoted-last-requires : goal.store_quoted-last-requires
store_quoted-last-requires c = simp (length-take, length-drop) (omega (arith, near-marked c.requires.ready 44 _ c.store_marked-mark.ensures, c.requires.ready.small))

pub returns-then-kind-eq9 : goal.returns-then-kind-eq9
returns-then-kind-eq9 c =
    let copies = tag-copied c.args.w.widths c.args.kind c.requires.ready c.element_value-v.ensures c.if-kind-eq9.true (stored-then c.store_marked-mark.ensures (stored_on (stored-mark c.store_byte.ensures) c.store_quoted-last.ensures refl)) in
    record { copies = copies; pace = on-pace (paced-element c.args.w.widths c.args.w.narrow c.args.kind c.requires.le_kind.0) c.requires.ready copies }

pub value_number-requires : goal.value_number-requires
value_number-requires c = (omega (arith, value-inside c.args.w.widths c.args.kind c.requires.ready c.element_value-v.ensures, fixed-size c.args.w.widths c.args.kind c.requires.ready c.element_value-v.ensures c.if-kind-eq9.false), omega (arith, c.requires.le_kind.1, c.if-kind-eq9.false))

pub store_marked-last-requires : goal.store_marked-last-requires
store_marked-last-requires c = omega (arith, near-marked c.requires.ready 44 _ c.store_marked-mark.ensures)

pub returns : goal.returns
returns c =
    let copies = number-copied c.args.w.widths c.args.kind c.requires.ready c.element_value-v.ensures c.if-kind-eq9.false c.value_number.ensures (stored-then c.store_marked-mark.ensures c.store_marked-last.ensures) in
    record { copies = copies; pace = on-pace (paced-element c.args.w.widths c.args.w.narrow c.args.kind c.requires.le_kind.0) c.requires.ready copies }
