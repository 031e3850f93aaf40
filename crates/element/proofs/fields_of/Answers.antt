use Prim.Native.Nat.{◌+◌}
use native.Mathlib.Omega.{arith}
use mathlib.Core.Path.{sym, ap, ◌∙◌}
use mir.ValLaws.{to_z-of_z}
use mir.Syntax.{w16, w32}
use borrow.Author.Rules.{rules}
use Rattle.wire.specs.Numbers.{signed, Bytes}
use Rattle.wire.proofs.Shifts.{number-one}
use Rattle.wire.proofs.Widths.{get_d-bytes, number-below}
use Rattle.element.proofs.ReadLaws.{RecordRead, fields_within, record-fields, record-read}
use Rattle.element.proofs.fields_of.Goals as goal

pub short_number-event_id-requires : goal.short_number-event_id-requires
short_number-event_id-requires c =
    let read : RecordRead c.args.w.widths c.args.part.now c.requires.readable.content c.requires.readable.next = (record-read c.args.w.widths c.args.part.now).if-got _ _ c.requires.readable.reads in (omega (arith, fields_within read), c.args.w.narrow.event)

pub overflow_cast-event_id : goal.overflow_cast-event_id
overflow_cast-event_id c =
    let bytes : Bytes c.args.part.now = get_d-bytes c.args.part.now (λ k. (c.type_inv.part k).fits) in omega (arith, c.short_number-event_id.ensures, number-below c.args.part.now 24 c.args.w.widths.event 2 bytes c.args.w.narrow.event)

pub short_number-reason-requires : goal.short_number-reason-requires
short_number-reason-requires c =
    let read : RecordRead c.args.w.widths c.args.part.now c.requires.readable.content c.requires.readable.next = (record-read c.args.w.widths c.args.part.now).if-got _ _ c.requires.readable.reads in (fields_within read, omega (arith, c.args.w.narrow.generation))

pub overflow_cast-reason : goal.overflow_cast-reason
overflow_cast-reason c =
    let bytes : Bytes c.args.part.now = get_d-bytes c.args.part.now (λ k. (c.type_inv.part k).fits) in omega (arith, c.short_number-reason.ensures, number-below c.args.part.now (24 + c.args.w.widths.event) c.args.w.widths.generation 1 bytes c.args.w.narrow.generation)

pub be64-requires : goal.be64-requires
be64-requires c =
    let read : RecordRead c.args.w.widths c.args.part.now c.requires.readable.content c.requires.readable.next = (record-read c.args.w.widths c.args.part.now).if-got _ _ c.requires.readable.reads in omega (arith, fields_within read)

pub bounds-part-8 : goal.bounds-part-8
bounds-part-8 c =
    let read : RecordRead c.args.w.widths c.args.part.now c.requires.readable.content c.requires.readable.next = (record-read c.args.w.widths c.args.part.now).if-got _ _ c.requires.readable.reads in
    let within = fields_within read in search rules

pub be32-requires : goal.be32-requires
be32-requires c =
    let read : RecordRead c.args.w.widths c.args.part.now c.requires.readable.content c.requires.readable.next = (record-read c.args.w.widths c.args.part.now).if-got _ _ c.requires.readable.reads in omega (arith, fields_within read)

pub be32-requires-2 : goal.be32-requires-2
be32-requires-2 c =
    let read : RecordRead c.args.w.widths c.args.part.now c.requires.readable.content c.requires.readable.next = (record-read c.args.w.widths c.args.part.now).if-got _ _ c.requires.readable.reads in omega (arith, fields_within read)

pub be16-requires : goal.be16-requires
be16-requires c =
    let read : RecordRead c.args.w.widths c.args.part.now c.requires.readable.content c.requires.readable.next = (record-read c.args.w.widths c.args.part.now).if-got _ _ c.requires.readable.reads in omega (arith, fields_within read)

pub be16-requires-2 : goal.be16-requires-2
be16-requires-2 c =
    let read : RecordRead c.args.w.widths c.args.part.now c.requires.readable.content c.requires.readable.next = (record-read c.args.w.widths c.args.part.now).if-got _ _ c.requires.readable.reads in omega (arith, fields_within read)

pub bounds-part-21 : goal.bounds-part-21
bounds-part-21 c =
    let read : RecordRead c.args.w.widths c.args.part.now c.requires.readable.content c.requires.readable.next = (record-read c.args.w.widths c.args.part.now).if-got _ _ c.requires.readable.reads in
    let within = fields_within read in search rules

pub be16-requires-3 : goal.be16-requires-3
be16-requires-3 c =
    let read : RecordRead c.args.w.widths c.args.part.now c.requires.readable.content c.requires.readable.next = (record-read c.args.w.widths c.args.part.now).if-got _ _ c.requires.readable.reads in omega (arith, fields_within read)

pub returns : goal.returns
returns c x n h =
    let s = c.args.part.now in
    record-fields ((record-read c.args.w.widths s).if-got x n h)
    c.be64.ensures
    (sym (number-one s 8))
    (to_z-of_z w32 c.signed32.result (record { sfits = c.signed32.type_inv }) ∙ c.signed32.ensures ∙ ap (signed 4) c.be32.ensures)
    (to_z-of_z w32 c.signed32-2.result (record { sfits = c.signed32-2.type_inv }) ∙ c.signed32-2.ensures ∙ ap (signed 4) c.be32-2.ensures)
    (to_z-of_z w16 c.signed16.result (record { sfits = c.signed16.type_inv }) ∙ c.signed16.ensures ∙ ap (signed 2) c.be16.ensures)
    c.be16-2.ensures
    (sym (number-one s 21))
    c.be16-3.ensures
    c.short_number-event_id.ensures
    c.short_number-reason.ensures
    (c.requires.has_elements x n h)
