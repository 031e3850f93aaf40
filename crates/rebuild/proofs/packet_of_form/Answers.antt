-- the arrays are long enough for every family
use Rattle.std.specs.Prelude.{Err}
use mathlib.Core.Path.{ap, ◌≡◌, sym, ◌∙◌, subst}
use Rattle.rebuild.proofs.CandidateLaws.{long-refused, answers-refused, known-form, unknown-form}
use Rattle.rebuild.specs.Candidates.{Roomy}
use Rattle.wire.specs.declared.Limits.{Limits}
use Rattle.wire.specs.Limits.{limits_of}
use Rattle.wire.proofs.LimitLaws.{limits-most}
use Rattle.wire.proofs.Widths.{get_d-bytes}
use native.Mathlib.Omega.{arith}
use Prim.Native.Nat.{ℕ}
use Rattle.rebuild.proofs.packet_of_form.Goals as goal

roomy : (family : ℕ) {limits : Limits} → limits ≡ limits_of family → Roomy limits
roomy family e = let most = limits-most family in subst Roomy (sym e) (record { packets = most.packets; records = omega (arith, most.records) })

pub returns-then-limits-lt1 : goal.returns-then-limits-lt1
returns-then-limits-lt1 c = let refused = answers-refused (unknown-form c.limits_of-limits.result c.args.f.now c.if-limits-lt1.true) (ap Err c.of.ensures) in
    record { answer = rw (← c.limits_of-limits.ensures) refused.0; buffer = rw (← c.limits_of-limits.ensures) refused.1 }

pub returns-then-f-gt-LARGEST_FORM : goal.returns-then-f-gt-LARGEST_FORM
returns-then-f-gt-LARGEST_FORM c = let f = c.args.f.now in
    let limits = c.limits_of-limits.result in
    let b = get_d-bytes f (λ k. (c.type_inv.f k).fits) in
    let long = known-form limits f c.if-limits-lt1.false ∙ long-refused limits (roomy c.args.family c.limits_of-limits.ensures) f b c.if-f-gt-LARGEST_FORM.true in
    let refused = answers-refused long (ap Err c.of-then-f-gt-LARGEST_FORM.ensures) in
    record { answer = rw (← c.limits_of-limits.ensures) refused.0; buffer = rw (← c.limits_of-limits.ensures) refused.1 }

pub packet_within-requires-clause-roomy : goal.packet_within-requires-clause-roomy
packet_within-requires-clause-roomy c = roomy c.args.family c.limits_of-limits.ensures

pub returns : goal.returns
returns c = let known = known-form c.limits_of-limits.result c.args.f.now c.if-limits-lt1.false in
    record { answer = rw (← c.limits_of-limits.ensures) (rw known c.packet_within.ensures.answer); buffer = rw (← c.limits_of-limits.ensures) (rw known c.packet_within.ensures.buffer) }
