use native.Mathlib.Omega.{arith}
use Rattle.wire.proofs.Widths.{get_d-bytes}
use Rattle.contents.proofs.TableLaws.{contents-size}
use Rattle.contents.proofs.write_field.Goals as goal

pub write_field-requires-clause-enough : goal.write_field-requires-clause-enough
write_field-requires-clause-enough c = λ longest a e.
    let t = c.args.table in
    omega (arith, contents-size (record { packet = t.packet; unused = t.unused; avl = t.avl; imei = t.imei }) t.base longest c.args.d.now a (get_d-bytes c.args.d.now (λ k. (c.type_inv.d k).fits)) c.requires.field.long e)
