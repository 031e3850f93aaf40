use Rattle.wire.proofs.Passing.{given_back}
use Rattle.std.specs.Prelude.{Ok}
use Rattle.lookup.proofs.PartLaws.{of-refused, of-record, part-fields}
use Rattle.element.specs.Places.{part}
use mathlib.Core.Path.{ap}
use native.Mathlib.Omega.{arith}
use Rattle.lookup.proofs.record_of_part.Goals as goal

pub slice_bounds-fields_of-count : goal.slice_bounds-fields_of-count
slice_bounds-fields_of-count c = let h = c.requires.stands _ _ _ _ c.in_ok-codec.was in omega arith

pub slice_bounds-fields_of-start : goal.slice_bounds-fields_of-start
slice_bounds-fields_of-start c = let h = c.requires.stands _ _ _ _ c.in_ok-codec.was in omega arith

pub slice_bounds-fields_of-end : goal.slice_bounds-fields_of-end
slice_bounds-fields_of-end c = let h = c.requires.stands _ _ _ _ c.in_ok-codec.was in omega arith

pub fields_of-requires : goal.fields_of-requires
unfolding part
fields_of-requires c = record { readable = (part-fields (c.requires.stands _ _ _ _ c.in_ok-codec.was) c.widths_of.ensures).0; has_elements = (part-fields (c.requires.stands _ _ _ _ c.in_ok-codec.was) c.widths_of.ensures).1 }

pub returns-in_err-codec : goal.returns-in_err-codec
returns-in_err-codec c = of-refused c.in_err-codec.was (given_back c.from_residual.ensures.1)

pub returns : goal.returns
unfolding part
returns c = of-record c.in_ok-codec.was (λ x n h. ap Ok (c.fields_of.ensures x n (rw c.widths_of.ensures h)))
