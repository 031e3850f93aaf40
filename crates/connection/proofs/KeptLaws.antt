-- A state that feeds leave, as it is kept: it is open or closed, and a feed of it is the rule's.
use Rattle.std.specs.Prelude.{Err, Ok}
use Prim.Native.Nat.{ℕ, ◌≤◌}
use native.Mathlib.Omega.{arith}
use mathlib.Core.Path.{◌≡◌, refl, sym, ap, ◌∙◌}
use mathlib.Core.List.{List}
use lib.ListN.{length}
use Rattle.wire.specs.declared.Limits.{Limits}
use Rattle.wire.specs.Answers.{refusal}
use Rattle.stream.specs.Stream.{Phase, for_login, for_packet, more, waiting, verdict, taken}
use Rattle.stream.proofs.StreamLaws.{needed-most, more-needed}
use Rattle.connection.specs.State.{Gathered, padded, phase_number, kept, phase_of, held_by, opened}
use Rattle.connection.specs.Feeding.{outcome, fed}
use Rattle.connection.proofs.PaddedLaws.{length-padded, take-padded, spare-padded}
use Rattle.connection.proofs.OpenLaws.{is_open, open_is, open-or, held-length, held-padded}
use Rattle.connection.proofs.GatherLaws.{phase-back}
use Rattle.connection.proofs.FeedLaws.{open-fed}

pub phase-of : (p : Phase) → phase_of (phase_number p) ≡ p
unfolding phase_of phase_number
phase-of for_login = refl
phase-of for_packet = refl

pub phase-low : (p : Phase) → phase_number p ≤ 1
unfolding phase_number
phase-low for_login = omega arith
phase-low for_packet = omega arith

module _ (limits : Limits) (room : ℕ) (known : 1 ≤ limits.largest) (small : 17 ≤ room) (large : limits.largest ≤ room) where
  held_fits : (p : Phase) (h : List ℕ) → verdict limits p h ≡ more → length h ≤ room
  held_fits p h e =
      let n = more-needed limits p h e in
      omega (arith, n.2, needed-most limits room small large p h n.0 n.1)

  -- a waiting state is open, and holds its bytes
  pub kept-open : (p : Phase) (h : List ℕ) → verdict limits p h ≡ more → opened limits room (kept room (waiting p h)) ≡ Ok h
  unfolding kept held_by
  kept-open p h e =
      let fits = held_fits p h e in
      let c = kept room (waiting p h) in
      let same : held_by c ≡ h = take-padded room h in
      let waits : verdict limits (phase_of (phase_number p)) (held_by c) ≡ more = ap (λ (q : Phase). verdict limits q (held_by c)) (phase-of p) ∙ ap (verdict limits p) same ∙ e in
      is_open limits room c (record { known = known; phase = phase-low p; size = length-padded room h fits; fill = fits; spare = spare-padded room h; waits = waits })
      ∙ ap Ok same

  pub kept-fed : (p : Phase) (h s : List ℕ) → verdict limits p h ≡ more → fed limits room (kept room (waiting p h)) s ≡ outcome room (taken limits p h s)
  unfolding kept
  kept-fed p h s e = open-fed limits room (kept room (waiting p h)) s (kept-open p h e) ∙ ap (λ (q : Phase). outcome room (taken limits q h s)) (phase-of p)

  -- an open state is a waiting one
  pub open_kept : (c : Gathered) {h : List ℕ} → opened limits room c ≡ Ok h → (c ≡ kept room (waiting (phase_of c.phase) h)) × (verdict limits (phase_of c.phase) h ≡ more)
  unfolding kept
  open_kept c {h} e =
      let o = open_is limits room c e in
      let is = o.0 in
      let size : c.fill ≡ length h = sym (held-length limits room c is.size is.fill) ∙ ap length (sym o.1) in
      let bytes : c.held ≡ padded room h = held-padded limits room c is ∙ ap (padded room) (sym o.1) in
      let number : c.phase ≡ phase_number (phase_of c.phase) = sym (phase-back c.phase is.phase) in
      ((λ i. record { held = bytes i; fill = size i; phase = number i }), ap (verdict limits (phase_of c.phase)) o.1 ∙ is.waits)

  -- a closed state takes nothing
  pub closed-shut : (c : Gathered) → c.phase ≡ 2 → opened limits room c ≡ Err (refusal 19)
  closed-shut c e = open-or limits room c (λ o. absurd (omega (arith, e, (open_is limits room c o).0.phase))) (λ o. o)
