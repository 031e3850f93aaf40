use Rattle.std.specs.Prelude.{Err}
use mathlib.Core.Path.{ap, ◌≡◌, ◌∙◌}
use Rattle.rebuild.proofs.CandidateLaws.{over-refused, answers-refused}
use Rattle.wire.proofs.Widths.{get_d-bytes}
use Rattle.std.proofs.Common.{rules}
use native.Mathlib.Omega.{arith}
use Rattle.rebuild.proofs.packet_within.Goals as goal

pub returns-in-None : goal.returns-in-None
returns-in-None c = let f = c.args.f.now in
    let b = get_d-bytes f (λ k. (c.type_inv.f k).fits) in
    let untouched : c.if-f-le96.out ≡ c.args.out.now = search rules in
    let over = over-refused c.args.limits c.requires.roomy f b (omega (arith, c.in-None.ensures.answer)) in
    let done = answers-refused {out = c.args.out.now} over (ap Err c.of.ensures) in
    record { answer = done.0; buffer = c.in-None.ensures.buffer ∙ untouched ∙ done.1 }
