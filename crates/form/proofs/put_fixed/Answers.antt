-- the whole entry stands in the buffer
use Rattle.store.specs.Stores.{Stored}
use Rattle.store.proofs.StoredLaws.{stored_on, stored-length}
use Rattle.form.proofs.LeafLaws.{near, near_on, near_fits, fixed-inside, fixed-fits, field-inside, fixed-copied}
use Rattle.avl.proofs.Inversion.{fixed_at}
use Rattle.form.specs.Moves.{fixed_text}
use Rattle.store.specs.Entries.{entry_bytes}
use Rattle.tlv.specs.Form.{fixed_entry}
use Rattle.wire.specs.Numbers.{le}
use lib.Dec.{lit≤}
use native.Mathlib.Omega.{arith}
use native.Mathlib.Nat.{le_trans, le-add_right}
use mathlib.Core.Path.{refl}
use Rattle.form.proofs.put_fixed.Goals as goal

written : (c : goal.After-slice_known-12-1) → Stored (fixed_text c.args.at (fixed_at c.args.w.widths c.args.s.now c.args.at)) c.args.out.now c.store_number-2.new.out c.args.to c.store_number-2.result
unfolding le entry_bytes fixed_entry
written c =
    let o₁ = stored_on c.store_head.ensures.stored c.store_field.ensures (omega arith) in
    let o₂ = stored_on o₁ c.store_field-2.ensures (omega arith) in
    let o₃ = stored_on o₂ c.store_field-3.ensures (omega arith) in
    let o₄ = stored_on o₃ c.store_field-4.ensures (omega arith) in
    let o₅ = stored_on o₄ c.store_field-5.ensures (omega arith) in
    let o₆ = stored_on o₅ c.store_field-6.ensures (omega arith) in
    let o₇ = stored_on o₆ c.store_field-7.ensures (omega arith) in
    let o₈ = stored_on o₇ c.store_field-8.ensures (omega arith) in
    stored_on (stored_on o₈ c.store_number.ensures refl) c.store_number-2.ensures refl

pub overflow_add-behind : goal.overflow_add-behind
overflow_add-behind c = let h = fixed-inside c.args.w.widths c.requires.ready in omega (arith, h, c.requires.ready.small)

pub overflow_add-last : goal.overflow_add-last
overflow_add-last c = let h = fixed-inside c.args.w.widths c.requires.ready in omega (arith, h, c.requires.ready.small)

pub store_head-requires : goal.store_head-requires
store_head-requires c = omega (arith, near c.requires.ready)

pub store_field-requires : goal.store_field-requires
store_field-requires c = field-inside c.args.w.widths c.requires.ready 0 8 (lit≤ tt) (lit≤ tt)

pub store_field-requires-2 : goal.store_field-requires-2
store_field-requires-2 c = field-inside c.args.w.widths c.requires.ready 8 1 (lit≤ tt) (lit≤ tt)

pub store_field-requires-3 : goal.store_field-requires-3
store_field-requires-3 c = field-inside c.args.w.widths c.requires.ready 9 4 (lit≤ tt) (lit≤ tt)

pub store_field-requires-4 : goal.store_field-requires-4
store_field-requires-4 c = field-inside c.args.w.widths c.requires.ready 13 4 (lit≤ tt) (lit≤ tt)

pub store_field-requires-5 : goal.store_field-requires-5
store_field-requires-5 c = field-inside c.args.w.widths c.requires.ready 17 2 (lit≤ tt) (lit≤ tt)

pub store_field-requires-6 : goal.store_field-requires-6
store_field-requires-6 c = field-inside c.args.w.widths c.requires.ready 19 2 (lit≤ tt) (lit≤ tt)

pub store_field-requires-7 : goal.store_field-requires-7
store_field-requires-7 c = field-inside c.args.w.widths c.requires.ready 21 1 (lit≤ tt) (lit≤ tt)

pub store_field-requires-8 : goal.store_field-requires-8
store_field-requires-8 c = field-inside c.args.w.widths c.requires.ready 22 2 (lit≤ tt) (lit≤ tt)

pub overflow_add-to : goal.overflow_add-to
overflow_add-to c = near_fits c.requires.ready 28 (lit≤ tt)

pub store_number-requires : goal.store_number-requires
store_number-requires c = (le_trans (le-add_right _ c.args.w.widths.generation) (fixed-inside c.args.w.widths c.requires.ready), le_trans c.args.w.narrow.event (lit≤ tt), near_on c.requires.ready 28 (lit≤ tt), lit≤ tt)

pub overflow_add-to-2 : goal.overflow_add-to-2
overflow_add-to-2 c = near_fits c.requires.ready 30 (lit≤ tt)

pub store_number-requires-2 : goal.store_number-requires-2
store_number-requires-2 c = (fixed-inside c.args.w.widths c.requires.ready, le_trans c.args.w.narrow.generation (lit≤ tt), near_on c.requires.ready 30 (lit≤ tt), lit≤ tt)

pub overflow_add-result : goal.overflow_add-result
overflow_add-result c = fixed-fits c.args.w.widths c.requires.ready

pub overflow_add-result-2 : goal.overflow_add-result-2
overflow_add-result-2 c = near_fits c.requires.ready 31 (lit≤ tt)

pub shape_of-out : goal.shape_of-out
shape_of-out c = stored-length (written c)

pub returns : goal.returns
returns c = fixed-copied c.args.w.widths c.requires.ready (written c)
