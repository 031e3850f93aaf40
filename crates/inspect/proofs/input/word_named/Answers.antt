-- What the word that the system gave stands for, as far as it gave it.
use Rattle.inspect.proofs.WordLaws.{stands-for}
use Rattle.inspect.proofs.input.word_named.Goals as goal

pub returns : goal.returns
returns g c = stands-for c.word_of-n.result c.word_of-n.new.buf _ _ c.word_of-n.auto.buf c.named.ensures
