-- A feed by whether the connection is open, and whether the lent buffer is long enough.
use Rattle.std.specs.Prelude.{Err, Ok}
use Prim.Native.Nat.{ℕ, ◌≤◌, ◌<◌}
use native.Mathlib.Omega.{arith}
use mathlib.Core.Path.{◌≡◌, refl, sym, ap, ◌∙◌, subst}
use mathlib.Core.List.{List, ◌++◌}
use lib.ListN.{length, take, length-append}
use lib.Seq.{length-take-le}
use borrow.Author.Tests.{le-leb, lt-leb}
use Rattle.wire.specs.declared.Limits.{Limits}
use Rattle.wire.specs.declared.Refusal.{Refusal}
use Rattle.wire.specs.Answers.{Answer, refusal}
use Rattle.wire.specs.Buffers.{leaving}
use Rattle.wire.proofs.Accepting.{check-passed, check-failed, on_accepted-passed, on_accepted-refused}
use Rattle.wire.proofs.BufferLaws.{leaving-done}
use Rattle.login.specs.Login.{read_login}
use Rattle.stream.specs.Stream.{Phase, for_login, for_packet, login, packet, refusing, more, settled, item_of, judged_packet, judged, verdict, Taken, taken}
use Rattle.stream.proofs.StreamLaws.{needed-most, by-feed}
use Rattle.connection.specs.declared.Fed.{Fed}
use Rattle.connection.specs.declared.Lent.{Lent}
use Rattle.connection.specs.State.{Gathered, zeros, padded, phase_of, held_by, opened}
use Rattle.connection.specs.Feeding.{Outcome, outcome, feeding, fed, fed_into, packet_in, fed_as, lent_as, Feedable, Gives}
use Rattle.connection.proofs.PaddedLaws.{length-zeros, drop-zeros}
use Rattle.connection.proofs.OpenLaws.{open_is, open-or}
use Rattle.connection.proofs.JudgeLaws.{judged-itself}

-- what is given, by the outcome
pub by-outcome : {o u : Outcome} (before : List ℕ) {r : Lent} {held out : List ℕ} → o ≡ u → Gives u before r held out
    → (r ≡ lent_as o) × ((held ≡ o.state.held) × (out ≡ leaving (Ok (packet_in o.told)) before))
by-outcome before {r} {held} {out} e g = let k = subst (λ (x : Outcome). Gives x before r held out) (sym e) g in (k.answer, (k.state, k.buffer))

module _ (limits : Limits) (room : ℕ) (c : Gathered) (s : List ℕ) where
  pub unopened : {r : Refusal} → opened limits room c ≡ Err r → fed limits room c s ≡ record { state = c; used = 0; told = settled (refusing r) }
  unfolding fed feeding
  unopened e = ap (feeding limits room c s) e

  pub open-fed : {h : List ℕ} → opened limits room c ≡ Ok h → fed limits room c s ≡ outcome room (taken limits (phase_of c.phase) h s)
  unfolding fed feeding
  open-fed e = ap (feeding limits room c s) e

  module _ (out : List ℕ) where
    pub shut-into : {r : Refusal} → opened limits room c ≡ Err r → fed_into limits room c s out ≡ record { state = c; used = 0; told = settled (refusing r) }
    unfolding fed_into feeding
    shut-into e = ap (feeding limits room c s) (on_accepted-refused (opened limits room c) _ e)

    pub tight-into : {h : List ℕ} → opened limits room c ≡ Ok h → length out < limits.largest
        → fed_into limits room c s out ≡ record { state = c; used = 0; told = settled (refusing (refusal 18)) }
    unfolding fed_into feeding
    tight-into e h = ap (feeding limits room c s) (on_accepted-passed (opened limits room c) _ e ∙ check-failed _ 18 _ _ (lt-leb _ _ h))

    pub open-into : {h : List ℕ} → opened limits room c ≡ Ok h → limits.largest ≤ length out
        → fed_into limits room c s out ≡ outcome room (taken limits (phase_of c.phase) h s)
    unfolding fed_into feeding
    open-into e h = ap (feeding limits room c s) (on_accepted-passed (opened limits room c) _ e ∙ check-passed _ 18 _ _ (le-leb _ _ h))

    -- a long buffer changes nothing
    pub fed-into : limits.largest ≤ length out → fed_into limits room c s out ≡ fed limits room c s
    fed-into h = open-or limits room c (λ e. open-into e h ∙ sym (open-fed e)) (λ e. shut-into e ∙ sym (unopened e))

-- what is given, by what is taken
pub by-taken : {limits : Limits} {room : ℕ} {c : Gathered} {u : Taken} {before : List ℕ} {r : Lent} {held out : List ℕ} → Feedable limits room c before → (s : List ℕ)
    → taken limits (phase_of c.phase) (held_by c) s ≡ u → Gives (outcome room u) before r held out → Gives (fed limits room c s) before r held out
by-taken {limits} {room} {c} {u} {before} {r} {held} {out} able s e g =
    subst (λ (x : Outcome). Gives x before r held out) (sym (open-fed limits room c s able.opens ∙ ap (outcome room) e)) g

-- ---- a packet is no longer than a state has room for

packet-within : (limits : Limits) (phase : Phase) (p : List ℕ) → length (packet_in (settled (judged limits phase p))) ≤ length p
unfolding judged item_of packet_in
packet-within limits for_login p = go (read_login p)
  where
    go : (r : Answer ℕ) → length (packet_in (settled (item_of login r))) ≤ length p
    go (Ok imei) = omega arith
    go (Err x) = omega arith
packet-within limits for_packet p = go (judged_packet limits p) refl
  where
    go : (r : Answer (List ℕ)) → judged_packet limits p ≡ r → length (packet_in (settled (item_of packet r))) ≤ length p
    go (Ok g) e = omega (arith, ap length (judged-itself limits p e))
    go (Err x) e = omega arith

-- what a feed tells, where more was needed before
module _ (limits : Limits) (room : ℕ) (small : 17 ≤ room) (large : limits.largest ≤ room) (phase : Phase) (held s : List ℕ) (waits : verdict limits phase held ≡ more) where
  told-fits : length (packet_in (taken limits phase held s).told) ≤ room
  unfolding packet_in
  told-fits =
      by-feed limits (λ (t : Taken). length (packet_in t.told) ≤ room) phase held s waits
      (λ r k. omega arith)
      (λ n k e whole within.
      let size : length (held ++ take k s) ≡ n = omega (arith, whole, length-append held (take k s), length-take-le k s within) in
      omega (arith, packet-within limits phase (held ++ take k s), size, needed-most limits room small large phase (held ++ s) n e))
      (omega arith)

-- zeros behind what is written at the start of zeros
leaving-zeros : (room : ℕ) (p : List ℕ) → length p ≤ room → leaving (Ok p) (zeros room) ≡ padded room p
unfolding padded
leaving-zeros room p h = leaving-done p (zeros room) (omega (arith, length-zeros room)) ∙ ap (λ (l : List ℕ). p ++ l) (drop-zeros (length p) room)

fed-fits : (limits : Limits) (room : ℕ) (c : Gathered) (s : List ℕ) → 17 ≤ room → limits.largest ≤ room → length (packet_in (fed limits room c s).told) ≤ room
unfolding packet_in outcome
fed-fits limits room c s small large =
    open-or limits room c
    (λ e. omega (arith, ap (λ (o : Outcome). length (packet_in o.told)) (open-fed limits room c s e), told-fits limits room small large (phase_of c.phase) (held_by c) s (open_is limits room c e).0.waits))
    (λ e. omega (arith, ap (λ (o : Outcome). length (packet_in o.told)) (unopened limits room c s e)))

-- the state by value, from what a lent one gives
pub fed-value : (family : ℕ) (limits : Limits) (room : ℕ) (c : Gathered) (s out held p : List ℕ) (r : Lent) → 17 ≤ room → limits.largest ≤ room → out ≡ zeros room
    → let o = fed_into limits room c s out in r ≡ lent_as o → held ≡ o.state.held → p ≡ leaving (Ok (packet_in o.told)) out
    → ◌≡◌ {A = Fed} (record { state = record { held = held; fill = r.fill; phase = r.phase; family = family }; used = r.used; item = r.item; packet = p }) (fed_as room family (fed limits room c s))
unfolding fed_as lent_as
fed-value family limits room c s out held p r small large clean e k m =
    let o = fed_into limits room c s out in
    let same : o ≡ fed limits room c s = fed-into limits room c s out (omega (arith, ap length clean, length-zeros room)) in
    let fits : length (packet_in o.told) ≤ room = omega (arith, ap (λ (x : Outcome). length (packet_in x.told)) same, fed-fits limits room c s small large) in
    let packet-is : p ≡ padded room (packet_in o.told) = m ∙ ap (leaving (Ok (packet_in o.told))) clean ∙ leaving-zeros room (packet_in o.told) fits in
    (λ i. record { state = record { held = k i; fill = (e i).fill; phase = (e i).phase; family = family }; used = (e i).used; item = (e i).item; packet = packet-is i })
    ∙ ap (fed_as room family) same
