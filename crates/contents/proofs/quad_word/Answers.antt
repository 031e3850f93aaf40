use Rattle.contents.specs.Words.{quad}
use mathlib.Core.Path.{refl}
use Rattle.contents.proofs.quad_word.Goals as goal

pub returns : goal.returns
unfolding quad
returns c = refl
