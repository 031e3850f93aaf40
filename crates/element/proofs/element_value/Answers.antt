-- the element as it was read
use native.Mathlib.Omega.{arith}
use Rattle.wire.proofs.Widths.{get_d-bytes, number-below}
use Rattle.element.proofs.ReadLaws.{ElementRead, element-read, id-within, size-within, variable-value, fixed-value}
use Rattle.element.proofs.element_value.Goals as goal

pub short_number-id-requires : goal.short_number-id-requires
short_number-id-requires c =
    let read : ElementRead c.args.w.widths c.args.kind c.args.part.now c.args.at c.requires.readable_element.content c.requires.readable_element.next = (element-read c.args.w.widths c.args.kind c.args.part.now c.args.at).if-got _ _ c.requires.readable_element.reads in (id-within read, omega arith)

pub overflow_cast-id : goal.overflow_cast-id
overflow_cast-id c =
    omega (arith, c.short_number-id.ensures, number-below c.args.part.now c.args.at c.args.w.widths.id 2 (get_d-bytes c.args.part.now (λ k. (c.type_inv.part k).fits)) c.args.w.narrow.id)

pub overflow_add-behind : goal.overflow_add-behind
overflow_add-behind c =
    let read : ElementRead c.args.w.widths c.args.kind c.args.part.now c.args.at c.requires.readable_element.content c.requires.readable_element.next = (element-read c.args.w.widths c.args.kind c.args.part.now c.args.at).if-got _ _ c.requires.readable_element.reads in omega (arith, id-within read)

pub be16-size-requires : goal.be16-size-requires
be16-size-requires c =
    let read : ElementRead c.args.w.widths c.args.kind c.args.part.now c.args.at c.requires.readable_element.content c.requires.readable_element.next = (element-read c.args.w.widths c.args.kind c.args.part.now c.args.at).if-got _ _ c.requires.readable_element.reads in size-within read c.if-kind-eq9.true

pub overflow_add-result : goal.overflow_add-result
overflow_add-result c =
    let read : ElementRead c.args.w.widths c.args.kind c.args.part.now c.args.at c.requires.readable_element.content c.requires.readable_element.next = (element-read c.args.w.widths c.args.kind c.args.part.now c.args.at).if-got _ _ c.requires.readable_element.reads in omega (arith, size-within read c.if-kind-eq9.true)

pub returns-then-kind-eq9 : goal.returns-then-kind-eq9
returns-then-kind-eq9 c e n h =
    variable-value ((element-read c.args.w.widths c.args.kind c.args.part.now c.args.at).if-got e n h) c.if-kind-eq9.true c.short_number-id.ensures c.be16-size.ensures

pub returns : goal.returns
returns c e n h =
    fixed-value ((element-read c.args.w.widths c.args.kind c.args.part.now c.args.at).if-got e n h) c.if-kind-eq9.false c.short_number-id.ensures
