use mathlib.Core.Path.{◌∙◌}
use Rattle.scan.proofs.TagLaws.{gives_less, counted-first, counted-on, counted-inside, counted-behind, counted-done, counted-wrong}
use native.Mathlib.Omega.{arith}
use Rattle.scan.proofs.tag_field.Goals as goal

pub loop-next-init : goal.loop-next-init
loop-next-init c = counted-first _ _ c.requires

pub piece_at-requires : goal.piece_at-requires
piece_at-requires c = counted-inside c.loop-next.invariant

pub overflow_add-size : goal.overflow_add-size
overflow_add-size c = omega (arith, counted-behind c.loop-next.invariant, counted-inside c.loop-next.invariant)

pub loop-next-smaller : goal.loop-next-smaller
loop-next-smaller c = gives_less (rw c.in-Byte.is at c.in_ok-next.ensures)

pub loop-next-preserved : goal.loop-next-preserved
loop-next-preserved c = counted-on c.loop-next.invariant (rw c.in-Byte.is at c.in_ok-next.ensures)

pub overflow_add-result : goal.overflow_add-result
overflow_add-result c = omega (arith, counted-inside c.loop-next.invariant)

pub returns : goal.returns
returns c = counted-done c.loop-next.invariant (rw c.in_default.is at c.in_ok-next.ensures)

pub returns-in_err-next : goal.returns-in_err-next
returns-in_err-next c = c.from_residual.ensures ∙ counted-wrong c.loop-next.invariant (rw c.in_err-next.was at c.piece_at.ensures)
