use Rattle.std.specs.Prelude.{Err}
use mathlib.Core.Path.{◌∙◌, sym, ap, subst}
use Rattle.lookup.specs.Answers.{Reaches, shifted}
use native.Mathlib.Omega.{arith}
use Rattle.lookup.proofs.moved.Goals as goal

pub overflow_add-result : goal.overflow_add-result
overflow_add-result c = omega (arith, subst (Reaches c.args.start) c.in-Some.is c.requires)

pub returns-in-None : goal.returns-in-None
unfolding shifted
returns-in-None c = ap Err c.of.ensures ∙ sym (ap (shifted c.args.start) c.in-None.is)

pub returns-in-Some : goal.returns-in-Some
unfolding shifted
returns-in-Some c = sym (ap (shifted c.args.start) c.in-Some.is)
