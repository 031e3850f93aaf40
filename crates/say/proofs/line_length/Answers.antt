use Rattle.say.proofs.LineLaws.{line-found, line-whole}
use Rattle.say.proofs.line_length.Goals as goal

pub returns-in-Some : goal.returns-in-Some
returns-in-Some c = line-found c.args.s.now c.in-Some.i c.in-Some.ensures

pub returns-in-None : goal.returns-in-None
returns-in-None c = line-whole c.args.s.now c.in-None.ensures
