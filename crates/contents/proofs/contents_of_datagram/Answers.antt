use Rattle.wire.proofs.Passing.{given_back}
use Rattle.contents.proofs.TableLaws.{datagram-told, datagram-untold, datagram-written, datagram-refused}
use Rattle.traverse.proofs.FieldLaws.{field_of}
use Rattle.datagram.proofs.FieldLaws.{datagram-field, datagram-long, datagram-most}
use Rattle.wire.proofs.Widths.{get_d-bytes}
use Rattle.wire.specs.Limits.{limits_of}
use Rattle.wire.proofs.LimitLaws.{limits-most}
use lib.ListN.{length, drop, length-take, length-drop}
use mathlib.Core.Path.{sym, ap, ◌∙◌}
use native.Mathlib.Omega.{arith}
use Prim.Native.Nat.{◌-◌}
use Rattle.contents.proofs.contents_of_datagram.Goals as goal

pub slice_bounds-write_field-count : goal.slice_bounds-write_field-count
slice_bounds-write_field-count c = datagram-long (limits_of c.args.family) c.args.p.now (datagram-told (limits_of c.args.family) c.args.p.now c.in_ok-accepted.ensures).1 (get_d-bytes c.args.p.now (λ k. (c.type_inv.p k).fits))

pub slice_bounds-write_field-start : goal.slice_bounds-write_field-start
slice_bounds-write_field-start c = datagram-long (limits_of c.args.family) c.args.p.now (datagram-told (limits_of c.args.family) c.args.p.now c.in_ok-accepted.ensures).1 (get_d-bytes c.args.p.now (λ k. (c.type_inv.p k).fits))

pub write_field-requires : goal.write_field-requires
write_field-requires c = let h = datagram-most (limits_of c.args.family) c.args.p.now (datagram-told (limits_of c.args.family) c.args.p.now c.in_ok-accepted.ensures).1 (get_d-bytes c.args.p.now (λ k. (c.type_inv.p k).fits)) in record { field = field_of (datagram-field (limits_of c.args.family) c.args.p.now (datagram-told (limits_of c.args.family) c.args.p.now c.in_ok-accepted.ensures).1 (get_d-bytes c.args.p.now (λ k. (c.type_inv.p k).fits))); d_bound = omega (arith, h, (limits-most c.args.family).datagrams, length-take (length c.args.p.now - 23) (drop 23 c.args.p.now), length-drop 23 c.args.p.now) }

pub returns-in_err-accepted : goal.returns-in_err-accepted
returns-in_err-accepted c = record { answer = given_back c.from_residual.ensures.1 ∙ (datagram-refused (limits_of c.args.family) c.args.p.now (datagram-untold (limits_of c.args.family) c.args.p.now c.in_err-accepted.ensures)).0; buffer = (datagram-refused (limits_of c.args.family) c.args.p.now (datagram-untold (limits_of c.args.family) c.args.p.now c.in_err-accepted.ensures)).1 }

pub returns : goal.returns
returns c = record { answer = (datagram-written (limits_of c.args.family) c.args.p.now (datagram-told (limits_of c.args.family) c.args.p.now c.in_ok-accepted.ensures).1 (datagram-told (limits_of c.args.family) c.args.p.now c.in_ok-accepted.ensures).2 (get_d-bytes c.args.p.now (λ k. (c.type_inv.p k).fits)) c.write_field.ensures).0; buffer = (datagram-written (limits_of c.args.family) c.args.p.now (datagram-told (limits_of c.args.family) c.args.p.now c.in_ok-accepted.ensures).1 (datagram-told (limits_of c.args.family) c.args.p.now c.in_ok-accepted.ensures).2 (get_d-bytes c.args.p.now (λ k. (c.type_inv.p k).fits)) c.write_field.ensures).1 }
