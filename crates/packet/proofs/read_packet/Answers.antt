use Rattle.wire.proofs.Passing.{given_back}
use Rattle.packet.proofs.WalkLaws.{packet-fits, answer-taken, answer-refused}
use Rattle.packet.specs.DataPackets.{read_packet}
use Rattle.walk.proofs.TakenLaws.{taken, not_taken}
use Rattle.wire.proofs.Widths.{get_d-bytes}
use mathlib.Core.Path.{sym, ◌∙◌}
use native.Mathlib.Omega.{arith}
use Rattle.packet.proofs.read_packet.Goals as goal

pub overflow_cast-result : goal.overflow_cast-result
overflow_cast-result c = omega (arith, packet-fits c.limits_of.result c.args.p.now (get_d-bytes c.args.p.now (λ k. (c.type_inv.p k).fits)) (taken 0 (read_packet c.limits_of.result c.args.p.now) (sym c.in_ok-data.ensures)))

pub overflow_cast-result-2 : goal.overflow_cast-result-2
overflow_cast-result-2 c = omega (arith, packet-fits c.limits_of.result c.args.p.now (get_d-bytes c.args.p.now (λ k. (c.type_inv.p k).fits)) (taken 0 (read_packet c.limits_of.result c.args.p.now) (sym c.in_ok-data.ensures)))

pub returns : goal.returns
returns c = rw (← c.limits_of.ensures) (sym (answer-taken c.limits_of.result c.args.p.now (taken 0 (read_packet c.limits_of.result c.args.p.now) (sym c.in_ok-data.ensures))))

pub returns-in_err-data : goal.returns-in_err-data
returns-in_err-data c = given_back c.from_residual.ensures.1 ∙ rw (← c.limits_of.ensures) (sym (answer-refused c.limits_of.result c.args.p.now (not_taken 0 (read_packet c.limits_of.result c.args.p.now) (sym c.in_err-data.ensures))))
