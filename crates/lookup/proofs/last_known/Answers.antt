use mathlib.Core.Path.{sym, ap, ◌∙◌, subst}
use Prim.Native.Nat.{ℕ, ◌^◌, ◌<◌}
use Rattle.wire.specs.Limits.{limits_of}
use Rattle.wire.proofs.Widths.{get_d-bytes}
use Rattle.lookup.specs.Lookups.{tcp_source}
use Rattle.lookup.specs.Answers.{answer_known}
use Rattle.lookup.proofs.KnownLaws.{last-refused, last-in, last-value, last-passed, last-few, known-refused, known-newer, known-older, passed-refused, passed-newer, passed-older}
use Rattle.lookup.proofs.last_known.Goals as goal

pub id_at-found-requires : goal.id_at-found-requires
id_at-found-requires c = (last-in (limits_of c.args.family) c.args.newer.now (get_d-bytes c.args.newer.now (λ k. (c.type_inv.newer k).fits)) _ c.last_part.ensures).stands _ _ _ _ c.in-Ok.is

pub returns-in-Ok-answer : goal.returns-in-Ok-answer
returns-in-Ok-answer c = let limits = limits_of c.args.family in
    let there = get_d-bytes c.args.newer.now (λ k. (c.type_inv.newer k).fits) in
    let newer = tcp_source limits c.args.newer.now in
    let older = tcp_source limits c.args.older.now in
    let part = (sym c.in-Ok.is) ∙ c.last_part.ensures in
    let value = (sym c.in-Ok-answer.is) ∙ last-value limits c.args.newer.now there c.args.id _ c.id_at-found.result.answer part c.id_at-found.ensures.value in record { value = known-newer c.args.id newer older c.in-Ok-answer.value value; passed = passed-newer c.args.id newer older c.in-Ok-answer.value value (last-passed limits c.args.newer.now there c.args.id _ c.id_at-found.result.passed part c.id_at-found.ensures.passed) }

pub known_in_older-requires : goal.known_in_older-requires
known_in_older-requires c = let limits = limits_of c.args.family in
    let there = get_d-bytes c.args.newer.now (λ k. (c.type_inv.newer k).fits) in
    let part = (sym c.in-Ok.is) ∙ c.last_part.ensures in
    subst (λ (n : ℕ). n < 256 ^ 2) (sym (last-passed limits c.args.newer.now there c.args.id _ c.id_at-found.result.passed part c.id_at-found.ensures.passed)) (last-few limits c.args.newer.now there c.args.id)

pub returns-in-Err : goal.returns-in-Err
returns-in-Err c = let limits = limits_of c.args.family in
    let there = get_d-bytes c.args.newer.now (λ k. (c.type_inv.newer k).fits) in
    let newer = tcp_source limits c.args.newer.now in
    let older = tcp_source limits c.args.older.now in
    let gone = last-refused limits c.args.newer.now there ((sym c.in-Err.is) ∙ c.last_part.ensures) in record { value = known-refused c.args.id newer older c.in-Err.r gone; passed = passed-refused c.args.id newer older gone }

pub returns-in_default : goal.returns-in_default
returns-in_default c = let limits = limits_of c.args.family in
    let there = get_d-bytes c.args.newer.now (λ k. (c.type_inv.newer k).fits) in
    let newer = tcp_source limits c.args.newer.now in
    let older = tcp_source limits c.args.older.now in
    let part = (sym c.in-Ok.is) ∙ c.last_part.ensures in
    let none = (sym c.in_default.is) ∙ last-value limits c.args.newer.now there c.args.id _ c.id_at-found.result.answer part c.id_at-found.ensures.value in record { value = c.known_in_older.ensures.value ∙ ap answer_known (known-older c.args.id newer older part none); passed = c.known_in_older.ensures.passed ∙ passed-older c.args.id newer older part none (last-passed limits c.args.newer.now there c.args.id _ c.id_at-found.result.passed part c.id_at-found.ensures.passed) }
