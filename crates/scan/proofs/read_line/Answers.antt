use Rattle.std.specs.Prelude.{Err, Ok}
use mathlib.Core.Path.{sym, ap, ◌∙◌}
use Rattle.wire.proofs.Accepting.{on_accepted-passed, on_accepted-refused}
use Rattle.scan.specs.Answers.{answer_line}
use Rattle.scan.proofs.AnswerLaws.{line_taken, line-wrong}
use Rattle.scan.proofs.read_line.Goals as goal

pub returns-in-Ok : goal.returns-in-Ok
unfolding answer_line
returns-in-Ok c = let k = line_taken c.args.s.now _ (sym c.in-Ok.is ∙ c.judge_line.ensures) in ap Ok k.2 ∙ sym (on_accepted-passed _ _ k.1)

pub returns-in-Err : goal.returns-in-Err
unfolding answer_line
returns-in-Err c = ap Err c.of.ensures ∙ sym (on_accepted-refused _ _ (line-wrong c.args.s.now _ (sym c.in-Err.is ∙ c.judge_line.ensures)).0)
