use mathlib.Core.Path.{sym, ◌∙◌}
use Rattle.scan.proofs.AnswerLaws.{line-right, line-wrong}
use Rattle.scan.proofs.wrong_byte.Goals as goal

pub returns-in-Ok : goal.returns-in-Ok
returns-in-Ok c = line-right c.args.s.now _ (sym c.in-Ok.is ∙ c.judge_line.ensures)

pub returns-in-Err : goal.returns-in-Err
returns-in-Err c = (line-wrong c.args.s.now _ (sym c.in-Err.is ∙ c.judge_line.ensures)).1
