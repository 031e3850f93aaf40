-- In the table, below it, and above it.
use mathlib.Core.Path.{sym}
use Rattle.command.specs.Layouts.{row_as}
use native.Mathlib.Omega.{arith}
use Rattle.command.proofs.CommandLaws.{row-outside, row_within}
use Rattle.command.proofs.layout_of.Goals as goal

pub returns-in-12-to-14 : goal.returns-in-12-to-14
unfolding row_as
returns-in-12-to-14 c = simp (c.width_in.ensures, c.width_in-in-12-to-14.ensures) (sym (row_within _ (omega arith) (omega arith)))

pub returns-in_default : goal.returns-in_default
unfolding row_as
returns-in_default c = sym (row-outside _ (λ low high. omega arith))

pub returns-in_default-2 : goal.returns-in_default-2
unfolding row_as
returns-in_default-2 c = sym (row-outside _ (λ low high. omega arith))
