use Rattle.wire.proofs.Passing.{given_back}
use native.Mathlib.Omega.{arith}
use mathlib.Core.Path.{sym, ◌∙◌}
use Rattle.wire.proofs.Widths.{get_d-bytes}
use Rattle.walk.proofs.TakenLaws.{taken, not_taken}
use Rattle.packet.specs.DataPackets.{read_packet}
use Rattle.packet.proofs.FieldLaws.{packet-field, packet-long}
use Rattle.traverse.proofs.FieldLaws.{field_of}
use Rattle.print.proofs.WholeLaws.{packet-written, packet-refused}
use Rattle.print.proofs.lines_of_packet.Goals as goal

pub overflow_sub-end : goal.overflow_sub-end
overflow_sub-end c = let h = packet-long c.limits_of.result c.args.p.now (taken 0 (read_packet c.limits_of.result c.args.p.now) (sym c.in_ok-judge_packet.ensures)).accepts (get_d-bytes c.args.p.now (λ k. (c.type_inv.p k).fits)) in omega arith

pub slice_bounds-write_field-count : goal.slice_bounds-write_field-count
slice_bounds-write_field-count c = let h = packet-long c.limits_of.result c.args.p.now (taken 0 (read_packet c.limits_of.result c.args.p.now) (sym c.in_ok-judge_packet.ensures)).accepts (get_d-bytes c.args.p.now (λ k. (c.type_inv.p k).fits)) in omega arith

pub slice_bounds-write_field-start : goal.slice_bounds-write_field-start
slice_bounds-write_field-start c = let h = packet-long c.limits_of.result c.args.p.now (taken 0 (read_packet c.limits_of.result c.args.p.now) (sym c.in_ok-judge_packet.ensures)).accepts (get_d-bytes c.args.p.now (λ k. (c.type_inv.p k).fits)) in omega arith

pub write_field-requires : goal.write_field-requires
write_field-requires c = field_of (packet-field c.limits_of.result c.args.p.now (taken 0 (read_packet c.limits_of.result c.args.p.now) (sym c.in_ok-judge_packet.ensures)).accepts (get_d-bytes c.args.p.now (λ k. (c.type_inv.p k).fits)))

pub returns-in_err-judge_packet : goal.returns-in_err-judge_packet
returns-in_err-judge_packet c = record { answer = rw (← c.limits_of.ensures) (given_back c.from_residual.ensures.1 ∙ (packet-refused c.limits_of.result c.args.p.now (not_taken 0 (read_packet c.limits_of.result c.args.p.now) (sym c.in_err-judge_packet.ensures))).0); buffer = rw (← c.limits_of.ensures) (packet-refused c.limits_of.result c.args.p.now (not_taken 0 (read_packet c.limits_of.result c.args.p.now) (sym c.in_err-judge_packet.ensures))).1 }

pub returns : goal.returns
returns c = record { answer = rw (← c.limits_of.ensures) (packet-written c.limits_of.result c.args.p.now (taken 0 (read_packet c.limits_of.result c.args.p.now) (sym c.in_ok-judge_packet.ensures)).accepts (get_d-bytes c.args.p.now (λ k. (c.type_inv.p k).fits)) c.write_field.ensures).0; buffer = rw (← c.limits_of.ensures) (packet-written c.limits_of.result c.args.p.now (taken 0 (read_packet c.limits_of.result c.args.p.now) (sym c.in_ok-judge_packet.ensures)).accepts (get_d-bytes c.args.p.now (λ k. (c.type_inv.p k).fits)) c.write_field.ensures).1 }
