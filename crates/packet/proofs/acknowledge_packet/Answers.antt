use Rattle.std.specs.Prelude.{Err}
use Rattle.packet.proofs.WalkLaws.{acknowledgement-bytes, unknown-family}
use Rattle.wire.specs.declared.Limits.{Limits}
use Rattle.wire.specs.Limits.{limits_of}
use Prim.Native.Nat.{ℕ, ◌≤◌, ◌<◌}
use Rattle.wire.specs.Answers.{on_accepted}
use Rattle.wire.specs.Buffers.{writing, leaving}
use Rattle.wire.proofs.BufferLaws.{writing-done, writing-short, leaving-done, leaving-short}
use lib.ListN.{drop}
use native.Mathlib.Omega.{arith}
use mathlib.Core.List.{List, [], ◌∷◌, ◌++◌}
use mathlib.Core.Path.{refl, sym, ap, ◌∙◌}
use Rattle.packet.proofs.acknowledge_packet.Goals as goal

pub returns-then-limits_of-lt1 : goal.returns-then-limits_of-lt1
unfolding writing leaving on_accepted
returns-then-limits_of-lt1 c = let limits = limits_of c.args.family in
    let least : limits.largest < 1 = omega (arith, c.if-limits_of-lt1.true, ap (λ (l : Limits). l.largest) c.limits_of.ensures) in
    record { answer = rw (unknown-family limits c.args.p.now least) (ap Err c.of.ensures); buffer = rw (unknown-family limits c.args.p.now least) (refl) }

pub returns-then-out-lt4 : goal.returns-then-out-lt4
returns-then-out-lt4 c = let limits = limits_of c.args.family in
    let bytes : List ℕ = 0 ∷ 0 ∷ 0 ∷ c.record_count-count.result ∷ [] in
    let least : 1 ≤ limits.largest = omega (arith, c.if-limits_of-lt1.false, ap (λ (l : Limits). l.largest) c.limits_of.ensures) in
    record {
      answer = rw (acknowledgement-bytes limits c.args.p.now c.record_count-count.ensures c.record_count-count.type_inv least)
          (ap Err c.of-then-out-lt4.ensures ∙ sym (writing-short bytes c.args.out.now c.if-out-lt4.true));
      buffer = rw (acknowledgement-bytes limits c.args.p.now c.record_count-count.ensures c.record_count-count.type_inv least)
          (sym (leaving-short bytes c.args.out.now c.if-out-lt4.true));
    }

pub returns : goal.returns
returns c = let limits = limits_of c.args.family in
    let bytes : List ℕ = 0 ∷ 0 ∷ 0 ∷ c.record_count-count.result ∷ [] in
    let least : 1 ≤ limits.largest = omega (arith, c.if-limits_of-lt1.false, ap (λ (l : Limits). l.largest) c.limits_of.ensures) in
    record {
      answer = rw (acknowledgement-bytes limits c.args.p.now c.record_count-count.ensures c.record_count-count.type_inv least)
          (sym (writing-done bytes c.args.out.now c.if-out-lt4.false));
      buffer = rw (acknowledgement-bytes limits c.args.p.now c.record_count-count.ensures c.record_count-count.type_inv least)
          (ap (λ (l : List ℕ). l ++ drop 4 c.args.out.now) c.copy_from_slice.ensures.after ∙ sym (leaving-done bytes c.args.out.now c.if-out-lt4.false));
    }
