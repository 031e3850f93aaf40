use mathlib.Core.Path.{sym, ◌∙◌}
use native.Mathlib.Omega.{arith}
use Rattle.line.specs.LineReader.{read_degrees}
use Rattle.scan.specs.Walking.{latitude_on}
use Rattle.scan.specs.Fields.{field_from, field_end}
use Rattle.scan.proofs.WalkLaws.{field-none, field-bad, field-on, degrees-told, degrees-word, degrees-bad, or-ok, or-failed, degrees-within}
use Rattle.scan.proofs.longitude_on.Goals as goal

pub returns-then-t-at : goal.returns-then-t-at
returns-then-t-at c = field-none read_degrees _ _ _ _ c.if-t-at.true

pub overflow_add-end : goal.overflow_add-end
overflow_add-end c = let h = degrees-within _ _ c.if-t-at.false _ (or-ok c.in_ok-longitude.was c.ok_or.ensures.ok_part c.degrees_field.ensures) in omega (arith, h)

pub latitude_on-requires : goal.latitude_on-requires
latitude_on-requires c = let h = degrees-within _ _ c.if-t-at.false _ (or-ok c.in_ok-longitude.was c.ok_or.ensures.ok_part c.degrees_field.ensures) in omega (arith, h)

pub returns-in_err-longitude : goal.returns-in_err-longitude
returns-in_err-longitude c = let k = or-failed c.in_err-longitude.was c.ok_or.ensures.value c.from_residual.ensures.1 in k.1 ∙ field-bad read_degrees _ _ _ _ c.if-t-at.false (degrees-bad _ _ (sym k.0 ∙ c.degrees_field.ensures)).1

pub returns : goal.returns
returns c = field-on read_degrees c.args.t.now c.args.at (latitude_on c.args.timestamp) 2 c.if-t-at.false (degrees-told _ _ (or-ok c.in_ok-longitude.was c.ok_or.ensures.ok_part c.degrees_field.ensures)) (rw (degrees-word (field_from c.args.t.now c.args.at) c.in_ok-longitude.longitude (degrees-told (field_end c.args.t.now c.args.at) (read_degrees (field_from c.args.t.now c.args.at)) (or-ok c.in_ok-longitude.was c.ok_or.ensures.ok_part c.degrees_field.ensures)).0) at c.latitude_on.ensures)
