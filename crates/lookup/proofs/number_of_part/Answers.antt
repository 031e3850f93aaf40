use Rattle.wire.proofs.Passing.{given_back}
use Rattle.wire.specs.Answers.{on_accepted}
use Rattle.lookup.proofs.PartLaws.{of-refused, part-readable, value_found, value-reaches, nth-sixteen}
use Rattle.lookup.proofs.PlaceLaws.{nth-member}
use Rattle.lookup.specs.Answers.{answer_value}
use Rattle.element.specs.Places.{part}
use Rattle.element.specs.Elements.{nth}
use Rattle.wire.proofs.Widths.{get_d-bytes}
use native.Mathlib.Omega.{arith}
use Rattle.lookup.proofs.number_of_part.Goals as goal

pub slice_bounds-nth_element-count : goal.slice_bounds-nth_element-count
slice_bounds-nth_element-count c = let h = c.requires.stands _ _ _ _ c.in_ok-codec.was in omega arith

pub slice_bounds-nth_element-start : goal.slice_bounds-nth_element-start
slice_bounds-nth_element-start c = let h = c.requires.stands _ _ _ _ c.in_ok-codec.was in omega arith

pub slice_bounds-nth_element-end : goal.slice_bounds-nth_element-end
slice_bounds-nth_element-end c = let h = c.requires.stands _ _ _ _ c.in_ok-codec.was in omega arith

pub nth_element-requires : goal.nth_element-requires
unfolding part
nth_element-requires c = record { readable = part-readable (c.requires.stands _ _ _ _ c.in_ok-codec.was) c.widths_of.ensures }

pub moved-requires : goal.moved-requires
unfolding part
moved-requires c = value-reaches (c.requires.stands _ _ _ _ c.in_ok-codec.was) (nth c.args.k) c.widths_of.ensures c.nth_element.ensures (nth-member c.args.k) (omega arith) (get_d-bytes c.args.p.now (λ k. (c.type_inv.p k).fits))

pub returns-in_err-codec : goal.returns-in_err-codec
unfolding answer_value on_accepted
returns-in_err-codec c = of-refused c.in_err-codec.was (given_back c.from_residual.ensures.1)

pub returns : goal.returns
unfolding part
returns c = value_found (c.requires.stands _ _ _ _ c.in_ok-codec.was) (nth c.args.k) c.widths_of.ensures c.nth_element.ensures (nth-sixteen c.args.k) c.in_ok-codec.was c.moved.ensures
