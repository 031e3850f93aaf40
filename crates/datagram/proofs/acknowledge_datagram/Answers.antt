use Rattle.std.specs.Prelude.{Err}
use mathlib.Core.Path.{ap, refl, sym, ◌∙◌}
use native.Mathlib.Omega.{arith}
use Rattle.datagram.specs.Datagrams.{answer_bytes}
use Rattle.wire.specs.Limits.{limits_of}
use Rattle.wire.proofs.BufferLaws.{writing-done, writing-short, leaving-done, leaving-short}
use Rattle.wire.proofs.Widths.{get_d-bytes}
use Rattle.wire.specs.Answers.{on_accepted}
use Rattle.wire.specs.Buffers.{writing, leaving}
use Rattle.datagram.proofs.WalkLaws.{acknowledged-taken, acknowledged-refused, carried-fits}
use Rattle.datagram.proofs.acknowledge_datagram.Goals as goal

pub returns-then-out-lt7 : goal.returns-then-out-lt7
returns-then-out-lt7 c = let p = c.args.p.now in
    let b = answer_bytes p c.in-Ok.data.count in
    let out = c.args.out.now in record { answer = rw (acknowledged-taken (limits_of c.args.family) p (get_d-bytes p (λ k. (c.type_inv.p k).fits)) (sym c.judge_datagram.ensures ∙ c.in-Ok.is)).1 (ap Err c.of.ensures ∙ sym (writing-short b out (omega arith))); buffer = rw (acknowledged-taken (limits_of c.args.family) p (get_d-bytes p (λ k. (c.type_inv.p k).fits)) (sym c.judge_datagram.ensures ∙ c.in-Ok.is)).1 (sym (leaving-short b out (omega arith))) }

pub overflow_cast-data : goal.overflow_cast-data
overflow_cast-data c = omega (arith, carried-fits (limits_of c.args.family) 0 c.args.p.now (get_d-bytes c.args.p.now (λ k. (c.type_inv.p k).fits)) (sym c.judge_datagram.ensures ∙ c.in-Ok.is))

pub put_acknowledgement-requires : goal.put_acknowledgement-requires
put_acknowledgement-requires c = let p = c.args.p.now in
    ((acknowledged-taken (limits_of c.args.family) p (get_d-bytes p (λ k. (c.type_inv.p k).fits)) (sym c.judge_datagram.ensures ∙ c.in-Ok.is)).0, omega arith)

pub returns-in-Err : goal.returns-in-Err
unfolding writing leaving on_accepted
returns-in-Err c = let p = c.args.p.now in
    let refused = acknowledged-refused (limits_of c.args.family) p (get_d-bytes p (λ k. (c.type_inv.p k).fits)) (sym c.judge_datagram.ensures ∙ c.in-Err.is) in
    record { answer = rw refused refl; buffer = rw refused refl }

pub returns : goal.returns
returns c = let p = c.args.p.now in
    let b = answer_bytes p c.in-Ok.data.count in
    let out = c.args.out.now in record { answer = rw (acknowledged-taken (limits_of c.args.family) p (get_d-bytes p (λ k. (c.type_inv.p k).fits)) (sym c.judge_datagram.ensures ∙ c.in-Ok.is)).1 (sym (writing-done b out (omega arith))); buffer = rw (acknowledged-taken (limits_of c.args.family) p (get_d-bytes p (λ k. (c.type_inv.p k).fits)) (sym c.judge_datagram.ensures ∙ c.in-Ok.is)).1 (c.put_acknowledgement.ensures ∙ sym (leaving-done b out (omega arith))) }
