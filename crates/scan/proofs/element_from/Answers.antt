use Rattle.std.specs.Prelude.{Err, Some}
use mathlib.Core.Path.{sym, ap, ◌∙◌}
use native.Mathlib.Omega.{arith}
use mathlib.Core.Bool.{false}
use Rattle.line.specs.LineReader.{read_printed}
use Rattle.scan.specs.Fields.{field_from, field_end, tag_start}
use Rattle.scan.proofs.WalkLaws.{field-inside}
use Rattle.scan.proofs.AnswerLaws.{number-item, standing-is, standing-none, tagged, answers-refused, answers_number, answers-short, answers-tag}
use Rattle.scan.proofs.element_from.Goals as goal

pub overflow_add-result : goal.overflow_add-result
overflow_add-result c = let k = number-item (tag_start c.args.t.now c.args.at) (field_end c.args.t.now c.args.at) (read_printed false (field_from c.args.t.now c.args.at)) (sym (c.in-Some-Number.is ∙ ap Some c.in-Some-Number.field-0-is) ∙ c.element_field.ensures) in omega (arith, k.1, field-inside c.args.t.now c.args.at c.requires)

pub returns-then-out-size : goal.returns-then-out-size
returns-then-out-size c = let k = tagged c.args.t.now c.args.at (sym (c.in-Some-Tag.is ∙ ap Some c.in-Some-Tag.field-0-is) ∙ c.element_field.ensures) in record { answer = ap Err c.of-then-out-size.ensures ∙ (answers-short _ _ k.bytes k.standing (omega (arith, k.sized, c.if-out-size.true))).0; buffer = (answers-short _ _ k.bytes k.standing (omega (arith, k.sized, c.if-out-size.true))).1 }

pub store_tag-requires : goal.store_tag-requires
store_tag-requires c = (tagged c.args.t.now c.args.at (sym (c.in-Some-Tag.is ∙ ap Some c.in-Some-Tag.field-0-is) ∙ c.element_field.ensures)).placed c.requires

pub overflow_add-result-in-Some-Tag : goal.overflow_add-result-in-Some-Tag
overflow_add-result-in-Some-Tag c = let k = tagged c.args.t.now c.args.at (sym (c.in-Some-Tag.is ∙ ap Some c.in-Some-Tag.field-0-is) ∙ c.element_field.ensures) in omega (arith, k.ends, field-inside c.args.t.now c.args.at c.requires)

pub returns-in-None : goal.returns-in-None
returns-in-None c = record { answer = ap Err c.of.ensures ∙ (answers-refused _ _ (standing-none c.args.t.now c.args.at (sym c.in-None.is ∙ c.element_field.ensures))).0; buffer = (answers-refused _ _ (standing-none c.args.t.now c.args.at (sym c.in-None.is ∙ c.element_field.ensures))).1 }

pub returns-in-Some-Number : goal.returns-in-Some-Number
returns-in-Some-Number c = let k = number-item (tag_start c.args.t.now c.args.at) (field_end c.args.t.now c.args.at) (read_printed false (field_from c.args.t.now c.args.at)) (sym (c.in-Some-Number.is ∙ ap Some c.in-Some-Number.field-0-is) ∙ c.element_field.ensures) in record { answer = (answers_number _ _ (standing-is c.args.t.now c.args.at k.0 k.1)).0; buffer = (answers_number _ _ (standing-is c.args.t.now c.args.at k.0 k.1)).1 }

pub returns-else-out-size : goal.returns-else-out-size
returns-else-out-size c = let k = tagged c.args.t.now c.args.at (sym (c.in-Some-Tag.is ∙ ap Some c.in-Some-Tag.field-0-is) ∙ c.element_field.ensures) in record { answer = (answers-tag _ _ k.bytes k.standing k.sized (omega (arith, k.sized, c.if-out-size.false)) (c.store_tag.ensures.stored k.bytes k.reads (omega (arith, k.sized, c.if-out-size.false)))).0; buffer = (answers-tag _ _ k.bytes k.standing k.sized (omega (arith, k.sized, c.if-out-size.false)) (c.store_tag.ensures.stored k.bytes k.reads (omega (arith, k.sized, c.if-out-size.false)))).1 }
