-- One feed within a stream, and the states that feeds leave.
use Prim.Native.Nat.{ℕ, ◌≤◌}
use native.Mathlib.Omega.{arith}
use mathlib.Core.Path.{◌≡◌, refl, sym, ap, subst}
use mathlib.Core.List.{List, [], ◌∷◌, ◌++◌}
use lib.ListN.{length, drop}
use Rattle.wire.specs.declared.Limits.{Limits}
use Rattle.wire.specs.Numbers.{Bytes}
use Rattle.wire.proofs.Widths.{bytes-append}
use Rattle.stream.specs.Stream.{Phase, for_packet, Item, login, packet, refusing, Verdict, more, settled, State, waiting, closed, needed, verdict_by, verdict, next, Taken, taken, by_verdict, stream}
use Rattle.stream.proofs.StreamLaws.{one_more, one-settles, by-feed}

-- a state that feeds leave: closed, or more is needed
abbrev pub Sound : Limits → State → Type 0
Sound limits (waiting phase held) = verdict limits phase held ≡ more
Sound limits closed = Unit {0}

abbrev pub HoldsBytes : State → Type 0
HoldsBytes (waiting phase held) = Bytes held
HoldsBytes closed = Unit {0}

module _ (limits : Limits) where
  pub none-held : verdict limits for_packet [] ≡ more
  unfolding verdict verdict_by needed
  none-held = refl

  next-sound : (i : Item) → Sound limits (next i)
  unfolding next
  next-sound (login imei) = none-held
  next-sound (packet p) = none-held
  next-sound (refusing r) = tt

  next-bytes : (i : Item) → HoldsBytes (next i)
  unfolding next
  next-bytes (login imei) = tt
  next-bytes (packet p) = tt
  next-bytes (refusing r) = tt

  -- what a feed leaves
  pub record Leaves (phase : Phase) (held s : List ℕ) (t : Taken) : Type 0 where
    pub sound : Sound limits t.state
    pub bytes : Bytes held → Bytes s → HoldsBytes t.state
    pub within : t.used ≤ length s
    pub forward : (i : Item) → t.told ≡ settled i → (1 ≤ t.used) × (t.state ≡ next i)
    pub flows : (later : List ℕ) → stream limits (s ++ later) (waiting phase held)
        ≡ by_verdict t.told (stream limits later t.state) (λ i. stream limits (drop t.used s ++ later) t.state)

  leaves-on : (phase : Phase) (held : List ℕ) (b : ℕ) (s : List ℕ)
      → (verdict limits phase (held ++ (b ∷ [])) ≡ more → Leaves phase (held ++ (b ∷ [])) s (taken limits phase (held ++ (b ∷ [])) s))
      → Leaves phase held (b ∷ s) (taken limits phase held (b ∷ s))
  unfolding by_verdict stream
  leaves-on phase held b s rest = go (verdict limits phase (held ++ (b ∷ []))) refl
    where
      go : (v : Verdict) → verdict limits phase (held ++ (b ∷ [])) ≡ v → Leaves phase held (b ∷ s) (taken limits phase held (b ∷ s))
      go more q =
          let k = rest q in
          subst (Leaves phase held (b ∷ s)) (sym (one_more limits phase held b s q))
          (record {
            sound = k.sound;
            bytes = λ h j. k.bytes (bytes-append held (b ∷ []) h (j.0, tt)) j.1;
            within = omega (arith, k.within);
            forward = λ i p. let f = k.forward i p in (omega (arith, f.0), f.1);
            flows = λ later. simp q (k.flows later);
          })
      go (settled i) q =
          subst (Leaves phase held (b ∷ s)) (sym (one-settles limits phase held b s q))
          (record {
            sound = next-sound i;
            bytes = λ h j. next-bytes i;
            within = omega arith;
            forward = λ j p. let same : i ≡ j = cc in (omega arith, ap next same);
            flows = λ later. simp q refl;
          })

  pub leaves : (phase : Phase) (s held : List ℕ) → verdict limits phase held ≡ more → Leaves phase held s (taken limits phase held s)
  unfolding taken by_verdict
  leaves phase [] held e =
      record {
        sound = e;
        bytes = λ h k. h;
        within = omega arith;
        forward = λ i q. absurd (let z : ◌≡◌ {A = ℕ} 0 1 = cc in omega arith);
        flows = λ later. refl;
      }
  leaves phase (b ∷ s) held e = leaves-on phase held b s (λ q. leaves phase s (held ++ (b ∷ [])) q)

  -- a feed that needs more has used all bytes
  pub all-used : (phase : Phase) (held s : List ℕ) → verdict limits phase held ≡ more → (taken limits phase held s).told ≡ more
      → taken limits phase held s ≡ record { used = length s; told = more; state = waiting phase (held ++ s) }
  all-used phase held s waits =
      by-feed limits (λ (t : Taken). t.told ≡ more → t ≡ record { used = length s; told = more; state = waiting phase (held ++ s) }) phase held s waits
      (λ r k e. absurd (let z : ◌≡◌ {A = ℕ} 0 1 = cc e in omega (arith, z)))
      (λ n k q whole within e. absurd (let z : ◌≡◌ {A = ℕ} 0 1 = cc e in omega (arith, z)))
      (λ e. refl)
