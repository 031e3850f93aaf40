use native.Mathlib.Omega.{arith}
use mathlib.Core.Path.{sym, ◌∙◌}
use lib.ListN.{length-set}
use Rattle.print.proofs.TagLaws.{plain-stored, escape-stored}
use Rattle.print.proofs.put_escaped.Goals as goal

pub returns-then-is_plain : goal.returns-then-is_plain
returns-then-is_plain c = plain-stored c.args.b (sym c.is_plain.ensures ∙ c.if-is_plain.true)

pub bounds-out-to-3 : goal.bounds-out-to-3
bounds-out-to-3 c = simp length-set (omega (arith, c.requires))

pub bounds-out-to-4 : goal.bounds-out-to-4
bounds-out-to-4 c = simp length-set (omega (arith, c.requires))

pub returns : goal.returns
returns c = escape-stored c.args.b (sym c.is_plain.ensures ∙ c.if-is_plain.false) c.glyph_of.ensures c.glyph_of-2.ensures
