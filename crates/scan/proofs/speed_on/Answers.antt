use mir.Facts.{to_z-of_z}
use Prim.Native.Nat.{◌-◌, ◌^◌}
use mathlib.Core.Path.{sym, ap, ◌∙◌}
use native.Mathlib.Omega.{arith}
use Rattle.line.specs.LineReader.{read_decimal}
use Rattle.scan.specs.Fields.{field_from, field_end}
use Rattle.scan.proofs.FieldLaws.{number-told, decimal-most}
use Rattle.scan.proofs.WalkLaws.{field-none, field-bad, number-read, speed-read, speed-bad, or-ok, or-failed, number-within}
use Rattle.std.specs.Prelude.{Err}
use Rattle.std.proofs.lemmas.Result.{err_from_is_err_and}
use Rattle.scan.proofs.speed_on.Goals as goal

pub returns-then-t-at : goal.returns-then-t-at
returns-then-t-at c = field-none (read_decimal (2 ^ 16 - 1)) _ _ _ _ c.if-t-at.true

pub overflow_add-start : goal.overflow_add-start
overflow_add-start c = let h = number-within _ _ c.if-t-at.false _ (or-ok c.in_ok-speed.was c.ok_or.ensures.ok_part c.number_field.ensures) in omega (arith, h)

pub elements_on-requires : goal.elements_on-requires
elements_on-requires c = let h = number-within _ _ c.if-t-at.false _ (or-ok c.in_ok-speed.was c.ok_or.ensures.ok_part c.number_field.ensures) in omega (arith, h)

pub overflow_cast-result : goal.overflow_cast-result
overflow_cast-result c = let e = number-told (field_end c.args.t.now c.args.at) (read_decimal (2 ^ 16 - 1) (field_from c.args.t.now c.args.at)) (or-ok c.in_ok-speed.was c.ok_or.ensures.ok_part c.number_field.ensures) in omega (arith, decimal-most (2 ^ 16 - 1) (field_from c.args.t.now c.args.at) e.0)

pub returns-in_err-speed : goal.returns-in_err-speed
returns-in_err-speed c = let k = or-failed c.in_err-speed.was c.ok_or.ensures.value c.from_residual.ensures.1 in k.1 ∙ field-bad (read_decimal (2 ^ 16 - 1)) _ _ _ _ c.if-t-at.false (number-read _ _ (sym k.0 ∙ c.number_field.ensures)).1

pub returns-in_err-elements : goal.returns-in_err-elements
returns-in_err-elements c = let p = err_from_is_err_and c.from_residual-in_err-elements.result c.from_residual-in_err-elements.ensures.1 in p.1 ∙ speed-bad _ _ _ _ _ _ _ c.if-t-at.false (number-told _ _ (or-ok c.in_ok-speed.was c.ok_or.ensures.ok_part c.number_field.ensures)) (ap Err p.2 ∙ sym c.in_err-elements.was ∙ c.elements_on.ensures)

pub returns : goal.returns
returns c = speed-read _ _ _ _ _ _ _ c.if-t-at.false (number-told _ _ (or-ok c.in_ok-speed.was c.ok_or.ensures.ok_part c.number_field.ensures)) (to_z-of_z c.ranges.longitude) (to_z-of_z c.ranges.latitude) (sym c.in_ok-elements.was ∙ c.elements_on.ensures)
