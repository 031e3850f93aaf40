-- an open connection's family has room for a login, and the state for its packets
use Rattle.std.specs.Prelude.{Ok}
use Rattle.connection.specs.State.{Gathered, opened, held_by}
use Rattle.connection.specs.Feeding.{lent_as, item_as, packet_in}
use Rattle.connection.proofs.FeedLaws.{by-outcome, shut-into, tight-into, fed-into}
use Rattle.connection.proofs.OpenLaws.{judged-open, judged-shut, open_is}
use Rattle.connection.proofs.JudgeLaws.{leaving-none}
use Rattle.wire.specs.declared.Limits.{Limits}
use Rattle.wire.specs.Limits.{limits_of, is_known}
use Rattle.wire.proofs.LimitLaws.{Most, limits-most, limits-known}
use borrow.Author.Tests.{le-leb}
use mathlib.Core.Path.{◌≡◌, sym, ◌∙◌, refl, subst}
use mathlib.Core.Bool.{true}
use Prim.Native.Nat.{ℕ, ◌≤◌}
use native.Mathlib.Omega.{arith}
use Rattle.connection.proofs.feed_lent.Goals as goal

roomy : (family : ℕ) {limits : Limits} (g : Gathered) → limits ≡ limits_of family → opened limits 1280 g ≡ Ok (held_by g) → (limits.largest ≤ 1280) × (17 ≤ limits.largest)
roomy family {limits} g e o =
    let known = (open_is limits 1280 g o).0.known in
    ((subst Most (sym e) (limits-most family)).packets, subst (λ (l : Limits). is_known l.largest ≡ true → 17 ≤ l.largest) (sym e) (limits-known family) (le-leb 1 limits.largest known))

pub returns-then-judged_at-eq0 : goal.returns-then-judged_at-eq0
unfolding lent_as item_as packet_in
returns-then-judged_at-eq0 c = let a = c.args in
    let g : Gathered = record { held = a.held.now; fill = a.fill; phase = a.phase } in
    let limits = c.limits_of-limits.result in record { answer = rw (← c.limits_of-limits.ensures) (by-outcome a.packet.now (shut-into limits 1280 g a.bytes.now a.packet.now (judged-shut limits 1280 g (sym c.judged_at.ensures ∙ c.if-judged_at-eq0.true))) (record { answer = c.unfed.ensures; state = refl; buffer = sym (leaving-none a.packet.now) })).0; state = rw (← c.limits_of-limits.ensures) (by-outcome a.packet.now (shut-into limits 1280 g a.bytes.now a.packet.now (judged-shut limits 1280 g (sym c.judged_at.ensures ∙ c.if-judged_at-eq0.true))) (record { answer = c.unfed.ensures; state = refl; buffer = sym (leaving-none a.packet.now) })).1.0; buffer = rw (← c.limits_of-limits.ensures) (by-outcome a.packet.now (shut-into limits 1280 g a.bytes.now a.packet.now (judged-shut limits 1280 g (sym c.judged_at.ensures ∙ c.if-judged_at-eq0.true))) (record { answer = c.unfed.ensures; state = refl; buffer = sym (leaving-none a.packet.now) })).1.1 }

pub returns-then-packet-limits : goal.returns-then-packet-limits
unfolding lent_as item_as packet_in
returns-then-packet-limits c = let a = c.args in
    let g : Gathered = record { held = a.held.now; fill = a.fill; phase = a.phase } in
    let limits = c.limits_of-limits.result in record { answer = rw (← c.limits_of-limits.ensures) (by-outcome a.packet.now (tight-into limits 1280 g a.bytes.now a.packet.now (judged-open limits 1280 g (omega (arith, c.judged_at.ensures, c.if-judged_at-eq0.false))) c.if-packet-limits.true) (record { answer = c.unfed-then-packet-limits.ensures; state = refl; buffer = sym (leaving-none a.packet.now) })).0; state = rw (← c.limits_of-limits.ensures) (by-outcome a.packet.now (tight-into limits 1280 g a.bytes.now a.packet.now (judged-open limits 1280 g (omega (arith, c.judged_at.ensures, c.if-judged_at-eq0.false))) c.if-packet-limits.true) (record { answer = c.unfed-then-packet-limits.ensures; state = refl; buffer = sym (leaving-none a.packet.now) })).1.0; buffer = rw (← c.limits_of-limits.ensures) (by-outcome a.packet.now (tight-into limits 1280 g a.bytes.now a.packet.now (judged-open limits 1280 g (omega (arith, c.judged_at.ensures, c.if-judged_at-eq0.false))) c.if-packet-limits.true) (record { answer = c.unfed-then-packet-limits.ensures; state = refl; buffer = sym (leaving-none a.packet.now) })).1.1 }

pub feed_open-requires : goal.feed_open-requires
feed_open-requires c = let a = c.args in
    let g : Gathered = record { held = a.held.now; fill = a.fill; phase = a.phase } in
    let opens = judged-open c.limits_of-limits.result 1280 g (omega (arith, c.judged_at.ensures, c.if-judged_at-eq0.false)) in
    let room = roomy a.family g c.limits_of-limits.ensures opens in
    record { opens = opens; holds = room.0; login = room.1; fits = c.if-packet-limits.false }

pub returns : goal.returns
returns c = let a = c.args in
    let g : Gathered = record { held = a.held.now; fill = a.fill; phase = a.phase } in record { answer = rw (← c.limits_of-limits.ensures) (by-outcome a.packet.now (fed-into c.limits_of-limits.result 1280 g a.bytes.now a.packet.now c.if-packet-limits.false) c.feed_open.ensures).0; state = rw (← c.limits_of-limits.ensures) (by-outcome a.packet.now (fed-into c.limits_of-limits.result 1280 g a.bytes.now a.packet.now c.if-packet-limits.false) c.feed_open.ensures).1.0; buffer = rw (← c.limits_of-limits.ensures) (by-outcome a.packet.now (fed-into c.limits_of-limits.result 1280 g a.bytes.now a.packet.now c.if-packet-limits.false) c.feed_open.ensures).1.1 }
