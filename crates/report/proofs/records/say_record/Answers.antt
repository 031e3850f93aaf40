use Rattle.element.specs.declared.RecordFields.{RecordFields}
use mathlib.Core.Path.{ap}
use native.Mathlib.Omega.{arith}
use Rattle.report.proofs.records.say_record.Goals as goal

pub record_at-f-requires : goal.record_at-f-requires
record_at-f-requires g c = omega (arith, c.requires.0)

pub overflow_add-first : goal.overflow_add-first
overflow_add-first g c = omega (arith, c.requires.0)

pub say_values-requires : goal.say_values-requires
say_values-requires g c = record { count_in_bounds = omega (arith, c.requires.0, ap (λ (x : RecordFields). x.elements) c.record_at-f.ensures); by_index = λ k h. c.requires.1 k (omega (arith, h, ap (λ (x : RecordFields). x.elements) c.record_at-f.ensures)) }

pub overflow_add-result : goal.overflow_add-result
overflow_add-result g c = omega (arith, c.requires.0, ap (λ (x : RecordFields). x.elements) c.record_at-f.ensures)

pub returns : goal.returns
returns g c = omega (arith, ap (λ (x : RecordFields). x.elements) c.record_at-f.ensures)
