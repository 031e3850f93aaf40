-- The digits that `encode` stores are put on the page.
use Rattle.text.specs.Hex.{hex_text}
use Rattle.say.proofs.Page.put_digits.Goals as goal

pub returns-clause-page : goal.returns-clause-page
unfolding hex_text
returns-clause-page c = rw c.encode.ensures.buffer at c.put_text.ensures.page
