use Rattle.wire.specs.declared.Limits.{Limits}
use Rattle.command.specs.Commands.{answer_command}
use mathlib.Core.Path.{ap, ◌∙◌}
use Rattle.command.proofs.read_command.Goals as goal

pub returns : goal.returns
returns c = c.judge_command.ensures ∙ ap (λ (l : Limits). answer_command l c.args.p.now) c.limits_of.ensures
