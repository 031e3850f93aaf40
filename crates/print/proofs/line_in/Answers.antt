use mathlib.Core.Path.{◌∙◌, refl}
use Rattle.wire.proofs.Passing.{given_back}
use native.Mathlib.Omega.{arith}
use Rattle.wire.proofs.Widths.{get_d-bytes}
use Rattle.print.proofs.WholeLaws.{part-ready}
use Rattle.traverse.proofs.FieldLaws.{refused-whole}
use Rattle.element.specs.Places.{part}
use Rattle.lookup.proofs.PartLaws.{of-refused, of-record}
use Rattle.print.proofs.line_in.Goals as goal

pub slice_bounds-write_line-count : goal.slice_bounds-write_line-count
slice_bounds-write_line-count c = let h = c.requires.part_in.stands _ _ _ _ c.in_ok-codec.was in omega (arith, h.ordered)

pub slice_bounds-write_line-start : goal.slice_bounds-write_line-start
slice_bounds-write_line-start c = let h = c.requires.part_in.stands _ _ _ _ c.in_ok-codec.was in omega (arith, h.ordered)

pub slice_bounds-write_line-end : goal.slice_bounds-write_line-end
slice_bounds-write_line-end c = let h = c.requires.part_in.stands _ _ _ _ c.in_ok-codec.was in omega (arith, h.inside)

pub write_line-requires : goal.write_line-requires
write_line-requires c = part-ready (c.requires.part_in.stands _ _ _ _ c.in_ok-codec.was) (get_d-bytes c.args.p.now (λ k. (c.type_inv.p k).fits)) (c.requires.short_part _ _ _ _ c.in_ok-codec.was)

pub returns-in_err-codec : goal.returns-in_err-codec
returns-in_err-codec c = of-refused c.in_err-codec.was (given_back c.from_residual.ensures.1 ∙ (refused-whole refl).0, (refused-whole refl).1)

pub returns : goal.returns
unfolding part
returns c = let line = c.write_line.ensures in of-record c.in_ok-codec.was (λ x n e. (line.answer x n e, line.buffer x n e))
