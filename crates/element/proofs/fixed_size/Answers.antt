use borrow.Author.Rules.{rules}
use Rattle.element.specs.Elements.{fixed_size}
use Rattle.element.proofs.fixed_size.Goals as goal

pub returns : goal.returns
unfolding fixed_size
returns c = search rules
