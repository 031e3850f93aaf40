use Rattle.wire.proofs.Passing.{given_back}
use Rattle.contents.proofs.TableLaws.{packet-written, packet-refused}
use Rattle.traverse.proofs.FieldLaws.{field_of}
use Rattle.packet.proofs.FieldLaws.{packet-field, packet-long, packet-most}
use Rattle.packet.specs.DataPackets.{read_packet}
use Rattle.walk.proofs.TakenLaws.{taken, not_taken}
use Rattle.wire.proofs.Widths.{get_d-bytes}
use Rattle.wire.specs.declared.Limits.{Limits}
use Rattle.wire.proofs.LimitLaws.{limits-most}
use lib.ListN.{length, drop, length-take, length-drop}
use mathlib.Core.Path.{sym, ap, ◌∙◌}
use native.Mathlib.Omega.{arith}
use Prim.Native.Nat.{◌-◌}
use Rattle.contents.proofs.contents_of_packet.Goals as goal

pub overflow_sub-end : goal.overflow_sub-end
overflow_sub-end c = let h = packet-long c.limits_of.result c.args.p.now (taken 0 (read_packet c.limits_of.result c.args.p.now) (sym c.in_ok-judge_packet.ensures)).accepts (get_d-bytes c.args.p.now (λ k. (c.type_inv.p k).fits)) in omega arith

pub slice_bounds-write_field-count : goal.slice_bounds-write_field-count
slice_bounds-write_field-count c = let h = packet-long c.limits_of.result c.args.p.now (taken 0 (read_packet c.limits_of.result c.args.p.now) (sym c.in_ok-judge_packet.ensures)).accepts (get_d-bytes c.args.p.now (λ k. (c.type_inv.p k).fits)) in omega arith

pub slice_bounds-write_field-start : goal.slice_bounds-write_field-start
slice_bounds-write_field-start c = let h = packet-long c.limits_of.result c.args.p.now (taken 0 (read_packet c.limits_of.result c.args.p.now) (sym c.in_ok-judge_packet.ensures)).accepts (get_d-bytes c.args.p.now (λ k. (c.type_inv.p k).fits)) in omega arith

pub write_field-requires : goal.write_field-requires
write_field-requires c = let h = packet-most c.limits_of.result c.args.p.now (taken 0 (read_packet c.limits_of.result c.args.p.now) (sym c.in_ok-judge_packet.ensures)).accepts (get_d-bytes c.args.p.now (λ k. (c.type_inv.p k).fits)) in record { field = field_of (packet-field c.limits_of.result c.args.p.now (taken 0 (read_packet c.limits_of.result c.args.p.now) (sym c.in_ok-judge_packet.ensures)).accepts (get_d-bytes c.args.p.now (λ k. (c.type_inv.p k).fits))); d_bound = omega (arith, h, (limits-most c.args.family).packets, ap (λ (l : Limits). l.largest) c.limits_of.ensures, length-take (length c.args.p.now - 4 - 8) (drop 8 c.args.p.now), length-drop 8 c.args.p.now) }

pub returns-in_err-judge_packet : goal.returns-in_err-judge_packet
returns-in_err-judge_packet c = record { answer = rw (← c.limits_of.ensures) (given_back c.from_residual.ensures.1 ∙ (packet-refused c.limits_of.result c.args.p.now (not_taken 0 (read_packet c.limits_of.result c.args.p.now) (sym c.in_err-judge_packet.ensures))).0); buffer = rw (← c.limits_of.ensures) (packet-refused c.limits_of.result c.args.p.now (not_taken 0 (read_packet c.limits_of.result c.args.p.now) (sym c.in_err-judge_packet.ensures))).1 }

pub returns : goal.returns
returns c = record { answer = rw (← c.limits_of.ensures) (packet-written c.limits_of.result c.args.p.now (taken 0 (read_packet c.limits_of.result c.args.p.now) (sym c.in_ok-judge_packet.ensures)).accepts (get_d-bytes c.args.p.now (λ k. (c.type_inv.p k).fits)) c.write_field.ensures).0; buffer = rw (← c.limits_of.ensures) (packet-written c.limits_of.result c.args.p.now (taken 0 (read_packet c.limits_of.result c.args.p.now) (sym c.in_ok-judge_packet.ensures)).accepts (get_d-bytes c.args.p.now (λ k. (c.type_inv.p k).fits)) c.write_field.ensures).1 }
