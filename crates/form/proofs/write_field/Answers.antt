use Rattle.wire.proofs.Widths.{get_d-bytes}
use Rattle.form.proofs.FormSize.{form-size}
use Rattle.form.proofs.write_field.Goals as goal

pub write_field-requires-clause-enough : goal.write_field-requires-clause-enough
write_field-requires-clause-enough c = λ longest a e. form-size longest c.args.d.now a (get_d-bytes c.args.d.now (λ k. (c.type_inv.d k).fits)) c.requires.long e
