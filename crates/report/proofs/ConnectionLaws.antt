-- A connection that is fed the rest of its input turn by turn: what is left to be shown of it gives the refusal of the whole.
use Prim.Native.Nat.{ℕ, ◌+◌, ◌-◌, ◌≤◌, ◌<◌}
use native.Mathlib.Omega.{arith}
use mathlib.Core.Path.{◌≡◌, refl, sym, ap, ap₂, ◌∙◌, subst}
use mathlib.Core.List.{List, [], ◌++◌, append-nil}
use lib.ListN.{length, take, drop, length-append, length-drop, drop_of_length-le}
use lib.Seq.{drop-drop}
use lib.Dec.{lit≤}
use Rattle.wire.specs.Limits.{limits_of}
use Rattle.wire.proofs.LimitLaws.{limits-most}
use Rattle.stream.specs.Stream.{Phase, for_login, for_packet, Item, login, packet, refusing, Verdict, more, settled, State, waiting, needed, verdict_by, verdict, next, Taken, taken, Streamed, cons, by_verdict, stream}
use Rattle.stream.proofs.FlowLaws.{Sound, Leaves, leaves, all-used}
use Rattle.connection.specs.declared.Lent.{Lent}
use Rattle.connection.specs.State.{Gathered, zeros, padded, phase_number, phase_of, kept, opened}
use Rattle.connection.specs.Feeding.{Outcome, outcome, fed_into, item_as, item_refusal, lent_as}
use Rattle.connection.proofs.PaddedLaws.{rest_part}
use Rattle.connection.proofs.FeedLaws.{open-into}
use Rattle.connection.proofs.KeptLaws.{phase-of, phase-low, kept-open}
use Rattle.report.specs.Shown.{closing_refusal, feeds_refusal}

-- ---- between two feeds

-- the connection waits, with the last bytes before `at` held
pub record Going (family : ℕ) (p : List ℕ) (c : Gathered) (at : ℕ) : Type 0 where
  pub known : 1 ≤ (limits_of family).largest
  pub phase : Phase
  pub held : List ℕ
  pub waits : verdict (limits_of family) phase held ≡ more
  pub state : c ≡ kept 1280 (waiting phase held)
  pub within : at ≤ length p
  pub since : length held ≤ at
  pub rest : closing_refusal (stream (limits_of family) (drop at p) (waiting phase held)).items ≡ feeds_refusal family p

pub begins : (family : ℕ) (p : List ℕ) → 1 ≤ (limits_of family).largest → Going family p (record { held = zeros 1280; fill = 0; phase = 0 }) 0
unfolding verdict verdict_by needed kept padded phase_number feeds_refusal
begins family p known = record { known = known; phase = for_login; held = []; waits = refl; state = refl; within = omega arith; since = omega arith; rest = refl }

-- no byte is left
pub ended : {family : ℕ} {p : List ℕ} {c : Gathered} {at : ℕ} → Going family p c at → length p ≤ at → 0 ≡ feeds_refusal family p
unfolding stream closing_refusal
ended {family} {p} {c} {at} g h =
    ap (λ (l : List ℕ). closing_refusal (stream (limits_of family) l (waiting g.phase g.held)).items) (sym (drop_of_length-le p {i = at} h)) ∙ g.rest

pub fill-within : {family : ℕ} {p : List ℕ} {c : Gathered} {at : ℕ} → Going family p c at → c.fill ≤ at
unfolding kept
fill-within g = omega (arith, ap (λ (x : Gathered). x.fill) g.state, g.since)

-- ---- one feed

module _ {family : ℕ} {p : List ℕ} {c : Gathered} {at : ℕ} (g : Going family p c at) (inside : at < length p) where
  -- the rest, as it is lent
  abbrev s : List ℕ
  s = take (length p - at) (drop at p)

  is : s ≡ drop at p
  is = rest_part p at

  abbrev t : Taken
  t = taken (limits_of family) g.phase g.held s

  left_by : Leaves (limits_of family) g.phase g.held s t
  left_by = leaves (limits_of family) g.phase s g.held g.waits

  size : length s ≡ length p - at
  size = ap length is ∙ length-drop at p

  all : t.told ≡ more → t ≡ record { used = length s; told = more; state = waiting g.phase (g.held ++ s) }
  all e = all-used (limits_of family) g.phase g.held s g.waits e

  some : 1 ≤ t.used
  some = go t.told refl
    where
      go : (v : Verdict) → t.told ≡ v → 1 ≤ t.used
      go more e = omega (arith, ap (λ (x : Taken). x.used) (all e), size, inside)
      go (settled i) e = (left_by.forward i e).0

  flow : stream (limits_of family) s (waiting g.phase g.held) ≡ by_verdict t.told (stream (limits_of family) [] t.state) (λ i. stream (limits_of family) (drop t.used s) t.state)
  flow =
      ap (λ (l : List ℕ). stream (limits_of family) l (waiting g.phase g.held)) (sym (append-nil s))
      ∙ left_by.flows []
      ∙ ap (λ (l : List ℕ). by_verdict t.told (stream (limits_of family) [] t.state) (λ i. stream (limits_of family) l t.state)) (append-nil (drop t.used s))

  left : (v : Verdict) → t.told ≡ v → closing_refusal (by_verdict v (stream (limits_of family) [] t.state) (λ i. stream (limits_of family) (drop t.used s) t.state)).items ≡ feeds_refusal family p
  left v e =
      ap (λ (x : Verdict). closing_refusal (by_verdict x (stream (limits_of family) [] t.state) (λ i. stream (limits_of family) (drop t.used s) t.state)).items) (sym e)
      ∙ ap (λ (x : Streamed). closing_refusal x.items) (sym flow)
      ∙ ap (λ (l : List ℕ). closing_refusal (stream (limits_of family) l (waiting g.phase g.held)).items) is
      ∙ g.rest

  goes : (phase : Phase) (held : List ℕ) → t.state ≡ waiting phase held → length held ≤ at + t.used
      → closing_refusal (stream (limits_of family) (drop t.used s) t.state).items ≡ feeds_refusal family p → Going family p (kept 1280 t.state) (at + t.used)
  goes phase held e since rest =
      record {
        known = g.known;
        phase = phase;
        held = held;
        waits = subst (Sound (limits_of family)) e left_by.sound;
        state = ap (kept 1280) e;
        within = omega (arith, left_by.within, size, inside);
        since = since;
        rest = ap₂ (λ (l : List ℕ) (st : State). closing_refusal (stream (limits_of family) l st).items) (sym (drop-drop t.used at p) ∙ ap (drop t.used) (sym is)) (sym e) ∙ rest;
      }

  -- it goes on, or it is closed
  after : {P : Type 0} → (Going family p (kept 1280 t.state) (at + t.used) → (kept 1280 t.state).phase ≤ 1 → P)
      → ((kept 1280 t.state).phase ≡ 2 → (item_refusal (item_as t.told)).number ≡ feeds_refusal family p → P) → P
  unfolding by_verdict cons closing_refusal item_refusal item_as next kept
  after {P} on off = go t.told refl
    where
      low : {phase : Phase} {held : List ℕ} → t.state ≡ waiting phase held → (kept 1280 t.state).phase ≤ 1
      low {phase} e = omega (arith, ap (λ (x : State). (kept 1280 x).phase) e, phase-low phase)

      item : (i : Item) → t.told ≡ settled i → next i ≡ waiting for_packet [] → closing_refusal (stream (limits_of family) (drop t.used s) t.state).items ≡ feeds_refusal family p → P
      item i e n rest = let st = (left_by.forward i e).1 ∙ n in on (goes for_packet [] st (omega arith) rest) (low st)

      go : (v : Verdict) → t.told ≡ v → P
      go more e =
          let st = ap (λ (x : Taken). x.state) (all e) in
          let used = ap (λ (x : Taken). x.used) (all e) in
          let none : drop t.used s ≡ [] = drop_of_length-le s {i = t.used} (omega (arith, used)) in
          on
          (goes g.phase (g.held ++ s) st (omega (arith, used, length-append g.held s, g.since)) (ap (λ (l : List ℕ). closing_refusal (stream (limits_of family) l t.state).items) none ∙ left more e))
          (low st)
      go (settled (login imei)) e = item (login imei) e refl (left (settled (login imei)) e)
      go (settled (packet q)) e = item (packet q) e refl (left (settled (packet q)) e)
      go (settled (refusing r)) e =
          off (ap (λ (x : State). (kept 1280 x).phase) (left_by.forward (refusing r) e).1) (ap (λ (v : Verdict). (item_refusal (item_as v)).number) e ∙ left (settled (refusing r)) e)

  -- ---- the same of what the code gets

  module _ (out : List ℕ) (room : 1280 ≤ length out) {r : Lent} (told : r ≡ lent_as (fed_into (limits_of family) 1280 c s out)) where
    fed-is : fed_into (limits_of family) 1280 c s out ≡ outcome 1280 t
    unfolding kept
    fed-is =
        open-into (limits_of family) 1280 c s out {h = g.held} (ap (opened (limits_of family) 1280) g.state ∙ kept-open (limits_of family) 1280 g.known (lit≤ tt) (limits-most family).packets g.phase g.held g.waits) (omega (arith, room, (limits-most family).packets))
        ∙ ap (λ (x : Phase). outcome 1280 (taken (limits_of family) x g.held s)) (ap (λ (x : Gathered). phase_of x.phase) g.state ∙ phase-of g.phase)

    lent_is : r ≡ lent_as (outcome 1280 t)
    lent_is = told ∙ ap lent_as fed-is

    pub uses : (1 ≤ r.used) × (at + r.used ≤ length p)
    unfolding lent_as outcome
    uses = let same = ap (λ (x : Lent). x.used) lent_is in (omega (arith, same, some), omega (arith, same, left_by.within, size, inside))

    pub goes_on : {held : List ℕ} → held ≡ (fed_into (limits_of family) 1280 c s out).state.held → (r.phase ≡ 2 → ⊥) → Going family p (record { held = held; fill = r.fill; phase = r.phase }) (at + r.used)
    unfolding lent_as outcome
    goes_on {held} e unshut =
        let stored = e ∙ ap (λ (x : Outcome). x.state.held) fed-is in
        let same : ◌≡◌ {A = Gathered} (record { held = held; fill = r.fill; phase = r.phase }) (kept 1280 t.state) = λ i. record { held = stored i; fill = (lent_is i).fill; phase = (lent_is i).phase } in
        after
        (λ k low. subst (λ (x : Gathered). Going family p x (at + r.used)) (sym same) (subst (λ (n : ℕ). Going family p (kept 1280 t.state) (at + n)) (sym (ap (λ (x : Lent). x.used) lent_is)) k))
        (λ shut n. absurd (unshut (ap (λ (x : Lent). x.phase) lent_is ∙ shut)))

    pub closes : r.phase ≡ 2 → (item_refusal r.item).number ≡ feeds_refusal family p
    unfolding lent_as outcome
    closes shut =
        after
        (λ k low. absurd (omega (arith, low, shut, ap (λ (x : Lent). x.phase) lent_is)))
        (λ e n. ap (λ (x : Lent). (item_refusal x.item).number) lent_is ∙ n)
