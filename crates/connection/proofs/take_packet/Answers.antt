use Rattle.wire.proofs.Passing.{given_back}
use Rattle.connection.proofs.JudgeLaws.{command-taken, command-not, data-taken, data-not}
use Rattle.command.specs.Layouts.{row_as}
use Rattle.walk.proofs.TakenLaws.{taken, not_taken}
use Rattle.packet.specs.DataPackets.{read_packet}
use Rattle.wire.proofs.Widths.{get_d-bytes}
use Rattle.wire.specs.Buffers.{writing, leaving}
use Rattle.wire.specs.Answers.{is_accepted, on_accepted}
use mathlib.Core.Path.{sym, ap, ◌∙◌}
use Rattle.connection.proofs.take_packet.Goals as goal

pub put_packet-requires : goal.put_packet-requires
put_packet-requires c = c.requires.1

pub put_packet-requires-in-None : goal.put_packet-requires-in-None
put_packet-requires-in-None c = c.requires.1

pub returns-in_ok-judge_command-in-Some : goal.returns-in_ok-judge_command-in-Some
unfolding row_as is_accepted
returns-in_ok-judge_command-in-Some c = let p = c.args.p.now in let out = c.args.out.now in let row = ap is_accepted (sym c.layout_of.ensures ∙ ap row_as c.in-Some.is) in let k = command-taken c.args.limits p row (sym c.in_ok-judge_command-in-Some.ensures) in record { result_value = c.put_packet.ensures.result_value ∙ ap (λ r. writing r out) (sym k); out_after = c.put_packet.ensures.out_after ∙ ap (λ r. leaving r out) (sym k) }

pub returns-in_err-judge_command-in-Some : goal.returns-in_err-judge_command-in-Some
unfolding row_as is_accepted writing leaving on_accepted
returns-in_err-judge_command-in-Some c = let p = c.args.p.now in let out = c.args.out.now in let row = ap is_accepted (sym c.layout_of.ensures ∙ ap row_as c.in-Some.is) in let k = command-not c.args.limits p row (get_d-bytes p (λ i. (c.shared_slice_known-1.given i).fits)) (sym c.in_err-judge_command-in-Some.ensures) in record { result_value = given_back c.from_residual.ensures.1 ∙ ap (λ r. writing r out) (sym k); out_after = ap (λ r. leaving r out) (sym k) }

pub returns-in_ok-judge_packet-in-None : goal.returns-in_ok-judge_packet-in-None
unfolding row_as is_accepted
returns-in_ok-judge_packet-in-None c = let p = c.args.p.now in let out = c.args.out.now in let row = ap is_accepted (sym c.layout_of.ensures ∙ ap row_as c.in-None.is) in let k = data-taken c.args.limits p row (taken 0 (read_packet c.args.limits p) (sym c.in_ok-judge_packet-in-None.ensures)).accepts in record { result_value = c.put_packet-in-None.ensures.result_value ∙ ap (λ r. writing r out) (sym k); out_after = c.put_packet-in-None.ensures.out_after ∙ ap (λ r. leaving r out) (sym k) }

pub returns-in_err-judge_packet-in-None : goal.returns-in_err-judge_packet-in-None
unfolding row_as is_accepted writing leaving on_accepted
returns-in_err-judge_packet-in-None c = let p = c.args.p.now in let out = c.args.out.now in let row = ap is_accepted (sym c.layout_of.ensures ∙ ap row_as c.in-None.is) in let k = data-not c.args.limits p row (not_taken 0 (read_packet c.args.limits p) (sym c.in_err-judge_packet-in-None.ensures)) in record { result_value = given_back c.from_residual-in_err-judge_packet-in-None.ensures.1 ∙ ap (λ r. writing r out) (sym k); out_after = ap (λ r. leaving r out) (sym k) }
