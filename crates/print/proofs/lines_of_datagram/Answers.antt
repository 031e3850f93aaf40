use Rattle.wire.proofs.Passing.{given_back}
use mathlib.Core.Path.{sym, ◌∙◌}
use Rattle.wire.specs.Limits.{limits_of}
use Rattle.wire.proofs.Widths.{get_d-bytes}
use Rattle.datagram.specs.Datagrams.{read_datagram}
use Rattle.datagram.proofs.WalkLaws.{carried, not_carried}
use Rattle.datagram.proofs.FieldLaws.{datagram-field, datagram-long}
use Rattle.traverse.proofs.FieldLaws.{field_of}
use Rattle.print.proofs.WholeLaws.{datagram-written, datagram-refused}
use Rattle.print.proofs.lines_of_datagram.Goals as goal

pub slice_bounds-write_field-count : goal.slice_bounds-write_field-count
slice_bounds-write_field-count c = datagram-long (limits_of c.args.family) c.args.p.now (carried 0 (read_datagram (limits_of c.args.family) c.args.p.now) (sym c.in_ok-judge_datagram.ensures)).1 (get_d-bytes c.args.p.now (λ k. (c.type_inv.p k).fits))

pub slice_bounds-write_field-start : goal.slice_bounds-write_field-start
slice_bounds-write_field-start c = datagram-long (limits_of c.args.family) c.args.p.now (carried 0 (read_datagram (limits_of c.args.family) c.args.p.now) (sym c.in_ok-judge_datagram.ensures)).1 (get_d-bytes c.args.p.now (λ k. (c.type_inv.p k).fits))

pub write_field-requires : goal.write_field-requires
write_field-requires c = field_of (datagram-field (limits_of c.args.family) c.args.p.now (carried 0 (read_datagram (limits_of c.args.family) c.args.p.now) (sym c.in_ok-judge_datagram.ensures)).1 (get_d-bytes c.args.p.now (λ k. (c.type_inv.p k).fits)))

pub returns-in_err-judge_datagram : goal.returns-in_err-judge_datagram
returns-in_err-judge_datagram c = record { answer = given_back c.from_residual.ensures.1 ∙ (datagram-refused (limits_of c.args.family) c.args.p.now (not_carried 0 (read_datagram (limits_of c.args.family) c.args.p.now) (sym c.in_err-judge_datagram.ensures))).0; buffer = (datagram-refused (limits_of c.args.family) c.args.p.now (not_carried 0 (read_datagram (limits_of c.args.family) c.args.p.now) (sym c.in_err-judge_datagram.ensures))).1 }

pub returns : goal.returns
returns c = record { answer = (datagram-written (limits_of c.args.family) c.args.p.now (carried 0 (read_datagram (limits_of c.args.family) c.args.p.now) (sym c.in_ok-judge_datagram.ensures)).1 (get_d-bytes c.args.p.now (λ k. (c.type_inv.p k).fits)) c.write_field.ensures).0; buffer = (datagram-written (limits_of c.args.family) c.args.p.now (carried 0 (read_datagram (limits_of c.args.family) c.args.p.now) (sym c.in_ok-judge_datagram.ensures)).1 (get_d-bytes c.args.p.now (λ k. (c.type_inv.p k).fits)) c.write_field.ensures).1 }
