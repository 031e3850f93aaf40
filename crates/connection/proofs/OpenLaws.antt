-- Which states are open: the test's way through, and what it tells.
use Rattle.std.specs.Prelude.{Err, Ok}
use Prim.Native.Nat.{ℕ, ◌+◌, ◌≤◌, ◌<◌}
use native.Mathlib.Omega.{arith}
use mathlib.Core.Path.{◌≡◌, refl, sym, ap, ◌∙◌}
use mathlib.Core.Bool.{Bool, true, false}
use mathlib.Core.List.{List}
use lib.ListN.{length, drop}
use lib.Seq.{length-take-le}
use lib.Dec.{eqb, leb}
use borrow.Author.Tests.{le-leb, leb-true, eq-eqb, eqb-true}
use Rattle.wire.specs.declared.Limits.{Limits}
use Rattle.wire.specs.declared.Refusal.{Refusal}
use Rattle.wire.specs.Answers.{Answer, refusal, check, check_at, on_accepted}
use Rattle.wire.proofs.Accepting.{by_length, check-accepted, check-passed, on_accepted-passed, on_accepted-refused, first-refused}
use Rattle.frame.specs.Frame.{header, field_length, refusal_of}
use Rattle.frame.proofs.FramingLaws.{whole-header}
use Rattle.stream.specs.Stream.{Phase, for_login, for_packet, Verdict, more, settled, needed, verdict}
use Rattle.stream.proofs.StreamLaws.{needed-long, needed-short, verdict-more, more-needed}
use Rattle.connection.specs.State.{Gathered, padded, is_zero, is_more, phase_of, held_by, opened, count_of, judged_at}
use Rattle.connection.proofs.PaddedLaws.{is-padded}

-- ---- where what is needed is refused: the number says the place

pub needed-unframed : (limits : Limits) (phase : Phase) (s : List ℕ) (size : ℕ) {x : Refusal} → needed limits phase s ≡ Err x → x ≡ refusal_of size x.number
unfolding needed
needed-unframed limits for_login s size e = absurd (let z : ◌≡◌ {A = ℕ} 0 1 = cc in omega arith)
needed-unframed limits for_packet s size {x} e =
    by_length 8 (length s)
    (λ h. whole-header limits.largest s size x (first-refused (header limits.largest s) _ (λ n r. (_, refl)) (sym (needed-long limits s h) ∙ e)))
    (λ h. absurd (let wrong : ◌≡◌ {A = Answer ℕ} (Ok 8) (Err x) = sym (needed-short limits s h) ∙ e in let z : ◌≡◌ {A = ℕ} 0 1 = cc in omega arith))

-- ---- the test

more-is : (v : Verdict) → is_more v ≡ true → v ≡ more
unfolding is_more
more-is more e = refl
more-is (settled i) e = absurd (let z : ◌≡◌ {A = ℕ} 0 1 = cc in omega arith)

module _ (limits : Limits) (room : ℕ) (c : Gathered) where
  -- what an open state keeps to
  pub record Open : Type 0 where
    pub known : 1 ≤ limits.largest
    pub phase : c.phase ≤ 1
    pub size : length c.held ≡ room
    pub fill : c.fill ≤ room
    pub spare : is_zero (drop c.fill c.held) ≡ true
    pub waits : verdict limits (phase_of c.phase) (held_by c) ≡ more

  pub held-length : length c.held ≡ room → c.fill ≤ room → length (held_by c) ≡ c.fill
  unfolding held_by
  held-length size h = length-take-le c.fill c.held (omega arith)

  pub held-padded : Open → c.held ≡ padded room (held_by c)
  unfolding held_by
  held-padded o = is-padded room c.held c.fill o.size o.fill o.spare

  pub open_is : {h : List ℕ} → opened limits room c ≡ Ok h → Open × (h ≡ held_by c)
  unfolding opened
  open_is {h} e =
      let c₀ = check-accepted _ 19 _ _ e in
      let c₁ = check-accepted _ 19 _ _ c₀.1 in
      let c₂ = check-accepted _ 19 _ _ c₁.1 in
      let c₃ = check-accepted _ 19 _ _ c₂.1 in
      let c₄ = check-accepted _ 19 _ _ c₃.1 in
      let c₅ = check-accepted _ 19 _ _ c₄.1 in (
        record {
          known = leb-true _ _ c₀.0;
          phase = leb-true _ _ c₁.0;
          size = eqb-true _ _ c₂.0;
          fill = leb-true _ _ c₃.0;
          spare = c₄.0;
          waits = more-is _ c₅.0;
        },
        cc c₅.1,
      )

  pub is_open : Open → opened limits room c ≡ Ok (held_by c)
  unfolding opened is_more
  is_open o =
      check-passed _ 19 _ _ (le-leb _ _ o.known)
      ∙ check-passed _ 19 _ _ (le-leb _ _ o.phase)
      ∙ check-passed _ 19 _ _ (eq-eqb _ _ o.size)
      ∙ check-passed _ 19 _ _ (le-leb _ _ o.fill)
      ∙ check-passed _ 19 _ _ o.spare
      ∙ check-passed _ 19 _ _ (ap is_more o.waits)

  -- it is open, or it is 19
  pub open-or : {P : Type 0} → (opened limits room c ≡ Ok (held_by c) → P) → (opened limits room c ≡ Err (refusal 19) → P) → P
  unfolding opened check_at
  open-or {P} f g =
      go (leb 1 limits.largest) (leb c.phase 1) (eqb (length c.held) room) (leb c.fill room) (is_zero (drop c.fill c.held))
      (is_more (verdict limits (phase_of c.phase) (held_by c))) f g
    where
      go : (t₀ t₁ t₂ t₃ t₄ t₅ : Bool) → let r = check t₀ 19 (check t₁ 19 (check t₂ 19 (check t₃ 19 (check t₄ 19 (check t₅ 19 (Ok (held_by c))))))) in
          (r ≡ Ok (held_by c) → P) → (r ≡ Err (refusal 19) → P) → P
      go true true true true true true f g = f refl
      go true true true true true false f g = g refl
      go true true true true false t₅ f g = g refl
      go true true true false t₄ t₅ f g = g refl
      go true true false t₃ t₄ t₅ f g = g refl
      go true false t₂ t₃ t₄ t₅ f g = g refl
      go false t₁ t₂ t₃ t₄ t₅ f g = g refl

  -- ---- how many bytes are judged together next

  module _ (k₀ : 1 ≤ limits.largest) (p : c.phase ≤ 1) (s : length c.held ≡ room) (f : c.fill ≤ room) (z : is_zero (drop c.fill c.held) ≡ true) where
    pub at_more : (n : ℕ) → needed limits (phase_of c.phase) (held_by c) ≡ Ok n → c.fill < n → count_of (judged_at limits room c) ≡ n
    unfolding count_of judged_at
    at_more n e h =
        let waits = verdict-more limits (phase_of c.phase) (held_by c) n e (omega (arith, held-length s f)) in
        let shown = is_open (record { known = k₀; phase = p; size = s; fill = f; spare = z; waits = waits }) in
        ap count_of (on_accepted-passed _ (needed limits (phase_of c.phase)) shown ∙ e)

    at-settled : (opened limits room c ≡ Ok (held_by c) → ⊥) → count_of (judged_at limits room c) ≡ 0
    unfolding count_of judged_at
    at-settled never = open-or (λ e. absurd (never e)) (λ e. ap count_of (on_accepted-refused _ (needed limits (phase_of c.phase)) e))

    pub at-full : (n : ℕ) → needed limits (phase_of c.phase) (held_by c) ≡ Ok n → n ≤ c.fill → count_of (judged_at limits room c) ≡ 0
    at-full n e h =
        at-settled (λ o.
        let k = more-needed limits (phase_of c.phase) (held_by c) (open_is o).0.waits in
        let same : n ≡ k.0 = cc (e, k.1) in
        omega (arith, k.2, held-length s f))

    pub at-refused : {r : Refusal} → needed limits (phase_of c.phase) (held_by c) ≡ Err r → count_of (judged_at limits room c) ≡ 0
    at-refused {r} e =
        at-settled (λ o.
        let k = more-needed limits (phase_of c.phase) (held_by c) (open_is o).0.waits in
        let bad : ◌≡◌ {A = Answer ℕ} (Err r) (Ok k.0) = sym e ∙ k.1 in
        let z : ◌≡◌ {A = ℕ} 0 1 = cc bad in
        omega (arith, z))

  -- none are where it is not open
  pub judged-open : 0 < count_of (judged_at limits room c) → opened limits room c ≡ Ok (held_by c)
  unfolding count_of judged_at
  judged-open h =
      open-or (λ e. e)
      (λ e. let none : count_of (judged_at limits room c) ≡ 0 = ap count_of (on_accepted-refused _ (needed limits (phase_of c.phase)) e) in absurd (omega (arith, none, h)))

  pub judged-shut : count_of (judged_at limits room c) ≡ 0 → opened limits room c ≡ Err (refusal 19)
  unfolding count_of judged_at
  judged-shut h =
      open-or
      (λ e.
      let k = more-needed limits (phase_of c.phase) (held_by c) (open_is e).0.waits in
      let some : count_of (judged_at limits room c) ≡ k.0 = ap count_of (on_accepted-passed _ (needed limits (phase_of c.phase)) e ∙ k.1) in
      absurd (omega (arith, some, h, k.2)))
      (λ e. e)
