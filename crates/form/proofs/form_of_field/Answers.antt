use Rattle.wire.proofs.Passing.{given_back}
use Rattle.traverse.proofs.FieldLaws.{field_of}
use Rattle.form.proofs.WholeLaws.{field-taken, field-written, field-refused}
use Rattle.walk.proofs.TakenLaws.{taken, not_taken}
use Rattle.avl.specs.DataField.{read_data}
use Rattle.walk.specs.Walks.{data_walk}
use Rattle.wire.proofs.Accepting.{from_start}
use mathlib.Core.Path.{sym, ap, ◌∙◌}
use Rattle.form.proofs.form_of_field.Goals as goal

pub write_field-requires : goal.write_field-requires
write_field-requires c = field_of (field-taken c.args.longest c.args.d.now c.requires.0 c.requires.1 (taken 0 (read_data c.args.longest c.args.d.now) (sym (ap (data_walk 0) (from_start _)) ∙ sym c.in_ok-read_data.ensures)).accepts)

pub returns-in_err-read_data : goal.returns-in_err-read_data
returns-in_err-read_data c = record { answer = given_back c.from_residual.ensures.1 ∙ (field-refused c.args.longest c.args.d.now (not_taken 0 (read_data c.args.longest c.args.d.now) (sym (ap (data_walk 0) (from_start _)) ∙ sym c.in_err-read_data.ensures))).0; buffer = (field-refused c.args.longest c.args.d.now (not_taken 0 (read_data c.args.longest c.args.d.now) (sym (ap (data_walk 0) (from_start _)) ∙ sym c.in_err-read_data.ensures))).1 }

pub returns : goal.returns
returns c = record { answer = (field-written c.args.longest c.args.d.now c.requires.0 c.requires.1 (taken 0 (read_data c.args.longest c.args.d.now) (sym (ap (data_walk 0) (from_start _)) ∙ sym c.in_ok-read_data.ensures)).accepts c.write_field.ensures).0; buffer = (field-written c.args.longest c.args.d.now c.requires.0 c.requires.1 (taken 0 (read_data c.args.longest c.args.d.now) (sym (ap (data_walk 0) (from_start _)) ∙ sym c.in_ok-read_data.ensures)).accepts c.write_field.ensures).1 }
