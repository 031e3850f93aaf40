use Rattle.packet.proofs.WalkLaws.{packet-fits, count-taken, count-refused}
use Rattle.packet.specs.DataPackets.{read_packet}
use Rattle.walk.proofs.TakenLaws.{taken, not_taken}
use Rattle.wire.proofs.Widths.{get_d-bytes}
use mathlib.Core.Path.{sym, ◌∙◌}
use native.Mathlib.Omega.{arith}
use Rattle.packet.proofs.record_count.Goals as goal

pub overflow_cast-result : goal.overflow_cast-result
overflow_cast-result c = omega (arith, packet-fits c.limits_of.result c.args.p.now (get_d-bytes c.args.p.now (λ k. (c.type_inv.p k).fits)) (taken 0 (read_packet c.limits_of.result c.args.p.now) (sym c.judge_packet.ensures ∙ c.in-Ok.is)))

pub returns-in-Ok : goal.returns-in-Ok
returns-in-Ok c = rw (← c.limits_of.ensures) (sym (count-taken c.limits_of.result c.args.p.now (taken 0 (read_packet c.limits_of.result c.args.p.now) (sym c.judge_packet.ensures ∙ c.in-Ok.is))))

pub returns-in-Err : goal.returns-in-Err
returns-in-Err c = rw (← c.limits_of.ensures) (sym (count-refused c.limits_of.result c.args.p.now (not_taken 0 (read_packet c.limits_of.result c.args.p.now) (sym c.judge_packet.ensures ∙ c.in-Err.is))))
