use Rattle.std.specs.Prelude.{Err}
use mathlib.Core.Path.{ap}
use Rattle.rebuild.proofs.CandidateLaws.{part-size, part-found, part-other, answers-refused, answers-found}
use Rattle.wire.proofs.Widths.{get_d-bytes}
use Rattle.std.proofs.lemmas.List.{length-replicate}
use lib.ListN.{length, replicate}
use native.Mathlib.Omega.{arith}
use Prim.Native.Nat.{ℕ, ◌≤◌}
use Rattle.rebuild.proofs.packet_in.Goals as goal

-- what fits an array of so many zeros
fits : {n size : ℕ} → n ≤ size → n ≤ length (replicate {A = ℕ} size 0)
fits {n} {size} h = omega (arith, h, length-replicate {A = ℕ} size 0)

pub same_form-requires : goal.same_form-requires
same_form-requires g c = let size = part-size c.args.limits c.requires.roomy c.args.f.now _ c.decode_form-n.result c.decode_form-n.ensures.buffer c.decode_form-n.ensures.size (fits c.if-n.false) in
    (omega (arith, size.0, size.1), omega (arith, size.0, c.if-n.false, c.requires.room), fits (omega (arith, size.0, c.if-n.false, c.requires.room)))

pub returns-then-same_form : goal.returns-then-same_form
returns-then-same_form g c = let f = c.args.f.now in
    let b = get_d-bytes f (λ k. (c.type_inv.f k).fits) in
    let found = part-found c.args.limits c.requires.roomy f _ c.decode_form-n.result c.decode_form-n.ensures.buffer c.decode_form-n.ensures.size (fits c.if-n.false) b c.same_form.ensures c.if-same_form.true in
    let done = answers-found c.args.out.now c.put_packet.result found (c.put_packet.ensures.answer, c.put_packet.ensures.buffer) in
    record { answer = done.0; buffer = done.1 }

pub returns : goal.returns
returns g c = let f = c.args.f.now in
    let b = get_d-bytes f (λ k. (c.type_inv.f k).fits) in
    let other = part-other c.args.limits c.requires.roomy f _ c.decode_form-n.result c.decode_form-n.ensures.buffer c.decode_form-n.ensures.size (fits c.if-n.false) b c.same_form.ensures c.if-same_form.false in
    let done = answers-refused other (ap Err c.of.ensures) in
    record { answer = done.0; buffer = done.1 }
