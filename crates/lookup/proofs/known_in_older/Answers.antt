use Rattle.std.specs.Prelude.{Err, Ok}
use native.Mathlib.Omega.{arith}
use mathlib.Core.Path.{sym, ap, ◌∙◌}
use Rattle.wire.specs.Limits.{limits_of}
use Rattle.wire.proofs.Widths.{get_d-bytes}
use Rattle.lookup.specs.Lookups.{tcp_source}
use Rattle.wire.specs.declared.Refusal.{Refusal}
use Rattle.lookup.proofs.KnownLaws.{last-refused, last-in, last-value, last-passed, last-few, last_none, last-sixteen, known-in-older}
use Rattle.lookup.proofs.known_in_older.Goals as goal

pub id_at-found-requires : goal.id_at-found-requires
id_at-found-requires c = (last-in (limits_of c.args.family) c.args.older.now (get_d-bytes c.args.older.now (λ k. (c.type_inv.older k).fits)) _ c.last_part.ensures).stands _ _ _ _ c.in-Ok.is

pub overflow_add-passed : goal.overflow_add-passed
overflow_add-passed c = let limits = limits_of c.args.family in
    let there = get_d-bytes c.args.older.now (λ k. (c.type_inv.older k).fits) in
    let part = (sym c.in-Ok.is) ∙ c.last_part.ensures in
    omega (arith, last-passed limits c.args.older.now there c.args.id _ c.id_at-found.result.passed part c.id_at-found.ensures.passed, last-few limits c.args.older.now there c.args.id, c.requires)

pub returns-in-Ok-answer : goal.returns-in-Ok-answer
returns-in-Ok-answer c = let limits = limits_of c.args.family in
    let there = get_d-bytes c.args.older.now (λ k. (c.type_inv.older k).fits) in
    let source = tcp_source limits c.args.older.now in
    let part = (sym c.in-Ok.is) ∙ c.last_part.ensures in
    let value = (sym c.in-Ok-answer.is) ∙ last-value limits c.args.older.now there c.args.id _ c.id_at-found.result.answer part c.id_at-found.ensures.value in record { value = known-in-older c.args.id source (Ok c.in-Ok-answer.value) value; passed = omega (arith, last-passed limits c.args.older.now there c.args.id _ c.id_at-found.result.passed part c.id_at-found.ensures.passed) }

pub returns-in-Err : goal.returns-in-Err
returns-in-Err c = let limits = limits_of c.args.family in
    let there = get_d-bytes c.args.older.now (λ k. (c.type_inv.older k).fits) in
    let source = tcp_source limits c.args.older.now in
    let gone = last-refused limits c.args.older.now there ((sym c.in-Err.is) ∙ c.last_part.ensures) in
    let none = last_none c.args.id source gone in record { value = known-in-older c.args.id source (Err c.in-Err.r) none.0; passed = omega (arith, none.1) }

pub returns-in_default : goal.returns-in_default
returns-in_default c = let limits = limits_of c.args.family in
    let there = get_d-bytes c.args.older.now (λ k. (c.type_inv.older k).fits) in
    let source = tcp_source limits c.args.older.now in
    let part = (sym c.in-Ok.is) ∙ c.last_part.ensures in
    let none = (sym c.in_default.is) ∙ last-value limits c.args.older.now there c.args.id _ c.id_at-found.result.answer part c.id_at-found.ensures.value in record { value = ap Err c.of.ensures ∙ ap (λ (x : Refusal). (Err x)) (sym (last-sixteen c.args.id source c.in_default.field-0 part none)) ∙ known-in-older c.args.id source (Err c.in_default.field-0) none; passed = omega (arith, last-passed limits c.args.older.now there c.args.id _ c.id_at-found.result.passed part c.id_at-found.ensures.passed) }
