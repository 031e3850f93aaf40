use Rattle.std.specs.Prelude.{Some}
use Rattle.line.specs.LineReader.{read_printed}
use Rattle.scan.specs.Fields.{field_from, field_end, tag_start}
use mathlib.Core.Path.{sym, ap, ◌∙◌}
use native.Mathlib.Omega.{arith}
use Rattle.scan.proofs.WalkLaws.{pass-number, pass-tag, pass-wrong, number-end, tag-end, field-inside}
use Rattle.scan.proofs.pass_element.Goals as goal

pub overflow_add-result : goal.overflow_add-result
overflow_add-result c = let h = field-inside c.args.t.now c.args.at c.requires in omega (arith, h, number-end (tag_start c.args.t.now c.args.at) (field_end c.args.t.now c.args.at) (read_printed c.args.tags (field_from c.args.t.now c.args.at)) (sym (c.in_ok-end.was ∙ ap Some c.in-Number.is) ∙ c.element_field.ensures))

pub overflow_add-result-in-Tag : goal.overflow_add-result-in-Tag
overflow_add-result-in-Tag c = let h = field-inside c.args.t.now c.args.at c.requires in omega (arith, h, tag-end (tag_start c.args.t.now c.args.at) (field_end c.args.t.now c.args.at) (read_printed c.args.tags (field_from c.args.t.now c.args.at)) (sym (c.in_ok-end.was ∙ ap Some c.in-Tag.is) ∙ c.element_field.ensures))

pub returns-in_err-end : goal.returns-in_err-end
returns-in_err-end c = c.from_residual.ensures ∙ pass-wrong _ _ _ (sym c.in_err-end.was ∙ c.element_field.ensures)

pub returns-in-Number : goal.returns-in-Number
returns-in-Number c = pass-number _ _ _ (sym (c.in_ok-end.was ∙ ap Some c.in-Number.is) ∙ c.element_field.ensures)

pub returns-in-Tag : goal.returns-in-Tag
returns-in-Tag c = pass-tag _ _ _ (sym (c.in_ok-end.was ∙ ap Some c.in-Tag.is) ∙ c.element_field.ensures)
