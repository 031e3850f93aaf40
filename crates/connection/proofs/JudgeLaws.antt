-- How a whole packet is judged, by what the readers answer.
use Rattle.std.specs.Prelude.{Err, Ok}
use Prim.Native.Nat.{ℕ, ◌≤◌}
use native.Mathlib.Omega.{arith}
use mathlib.Core.Path.{◌≡◌, refl, ap, ◌∙◌}
use mathlib.Core.Bool.{Bool, true, false}
use mathlib.Core.List.{List, []}
use lib.ListN.{length, get_or}
use borrow.Author.Tests.{eq-eqb, ne_eqb}
use Rattle.wire.specs.declared.Limits.{Limits}
use Rattle.wire.specs.declared.Refusal.{Refusal}
use Rattle.wire.specs.Numbers.{Bytes, pick}
use Rattle.wire.specs.Answers.{Answer, is_accepted, on_accepted}
use Rattle.wire.specs.Buffers.{writing, leaving}
use Rattle.wire.proofs.Accepting.{on_accepted-accepted, on_accepted-passed, on_accepted-refused}
use Rattle.wire.proofs.BufferLaws.{writing-done, leaving-done, written-fits}
use Rattle.avl.specs.DataField.{AvlData}
use Rattle.packet.specs.DataPackets.{read_packet}
use Rattle.command.specs.declared.CommandFields.{CommandFields}
use Rattle.command.specs.Layouts.{layout_of}
use Rattle.command.specs.Commands.{read_command, answer_command, answered}
use Rattle.command.proofs.TextLaws.{command-refused}
use Rattle.login.specs.Login.{read_login}
use Rattle.stream.specs.Stream.{login, packet, refusing, item_of, judged_packet, judged}
use Rattle.stream.proofs.ItemLaws.{by-command, by-data}
use Rattle.connection.specs.State.{phase_of}

module _ (limits : Limits) (p : List ℕ) where
  -- the codec has a row in the table of commands
  module _ (row : is_accepted (layout_of (get_or p 8 0)) ≡ true) where
    pub command-taken : {f : CommandFields} → answer_command limits p ≡ Ok f → judged_packet limits p ≡ Ok p
    unfolding answer_command answered
    command-taken k = by-command limits p row ∙ on_accepted-passed (read_command limits p) _ (on_accepted-accepted (read_command limits p) _ k).1

    pub command-not : {x : Refusal} → Bytes p → answer_command limits p ≡ Err x → judged_packet limits p ≡ Err x
    command-not b k = by-command limits p row ∙ on_accepted-refused (read_command limits p) _ (command-refused limits p b k)

  -- it has none
  module _ (row : is_accepted (layout_of (get_or p 8 0)) ≡ false) where
    pub data-taken : {a : AvlData} → read_packet limits p ≡ Ok a → judged_packet limits p ≡ Ok p
    data-taken k = by-data limits p row ∙ on_accepted-passed (read_packet limits p) _ k

    pub data-not : {x : Refusal} → read_packet limits p ≡ Err x → judged_packet limits p ≡ Err x
    data-not k = by-data limits p row ∙ on_accepted-refused (read_packet limits p) _ k

-- ---- the item that a whole item's bytes give

module _ (limits : Limits) (s : List ℕ) where
  pub judged-login : {phase : ℕ} {imei : ℕ} → phase ≡ 0 → read_login s ≡ Ok imei → judged limits (phase_of phase) s ≡ login imei
  unfolding judged phase_of item_of
  judged-login e k = simp (eq-eqb _ _ e, k)

  pub refused-login : {phase : ℕ} {x : Refusal} → phase ≡ 0 → read_login s ≡ Err x → judged limits (phase_of phase) s ≡ refusing x
  unfolding judged phase_of item_of
  refused-login e k = simp (eq-eqb _ _ e, k)

  pub judged-packet : {phase : ℕ} {p : List ℕ} → (phase ≡ 0 → ⊥) → judged_packet limits s ≡ Ok p → judged limits (phase_of phase) s ≡ packet p
  unfolding judged phase_of item_of
  judged-packet e k = simp (ne_eqb _ _ e, k)

  pub refused-packet : {phase : ℕ} {x : Refusal} → (phase ≡ 0 → ⊥) → judged_packet limits s ≡ Err x → judged limits (phase_of phase) s ≡ refusing x
  unfolding judged phase_of item_of
  refused-packet e k = simp (ne_eqb _ _ e, k)

-- ---- what was written tells how a packet was judged

pub written-packet : (limits : Limits) (p out : List ℕ) {n : ℕ} → Ok n ≡ writing (judged_packet limits p) out
    → (g : List ℕ) × (judged_packet limits p ≡ Ok g) × (length g ≡ n)
written-packet limits p out e = let k = written-fits (judged_packet limits p) out e in (k.0, k.1, k.2)

-- a packet that is accepted is the bytes that were judged
accepts-itself : {A : Type 0} (r : Answer A) (p : List ℕ) {g : List ℕ} → on_accepted r (λ a. Ok p) ≡ Ok g → g ≡ p
unfolding on_accepted
accepts-itself (Ok a) p e = cc
accepts-itself (Err x) p e = absurd (let z : ◌≡◌ {A = ℕ} 0 1 = cc in omega arith)

pub judged-itself : (limits : Limits) (p : List ℕ) {g : List ℕ} → judged_packet limits p ≡ Ok g → g ≡ p
unfolding judged_packet
judged-itself limits p {g} e = go (is_accepted (layout_of (get_or p 8 0))) e
  where
    go : (b : Bool) → pick b (on_accepted (read_command limits p) (λ c. Ok p)) (on_accepted (read_packet limits p) (λ a. Ok p)) ≡ Ok g → g ≡ p
    go true e = accepts-itself (read_command limits p) p e
    go false e = accepts-itself (read_packet limits p) p e

-- where it fits, it is refused by the readers alone
pub unwritten-packet : (limits : Limits) (p out : List ℕ) {x : Refusal} → length p ≤ length out → Err x ≡ writing (judged_packet limits p) out → judged_packet limits p ≡ Err x
unfolding writing on_accepted
unwritten-packet limits p out {x} fits e = go (judged_packet limits p) refl e
  where
    go : (r : Answer (List ℕ)) → judged_packet limits p ≡ r → Err x ≡ writing r out → judged_packet limits p ≡ Err x
    go (Ok g) k e =
        let same = judged-itself limits p k in
        let done : Err x ≡ Ok (length g) = e ∙ writing-done g out (omega (arith, ap length same)) in
        absurd (let z : ◌≡◌ {A = ℕ} 0 1 = cc done in omega arith)
    go (Err y) k e = let same : y ≡ x = cc e in k ∙ ap Err same

-- where there is no packet, the buffer is as it was
pub leaving-none : (out : List ℕ) → leaving (Ok []) out ≡ out
leaving-none out = leaving-done [] out (omega arith)
