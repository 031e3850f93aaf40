-- The walk between the quantities is decided by the bytes up to the end of the offending field, and lies within them.
use Prim.Native.Nat.{ℕ, ◌+◌, ◌-◌, ◌≤◌}
use native.Mathlib.Omega.{arith}
use mathlib.Core.Path.{◌≡◌, refl}
use mathlib.Core.List.{List}
use lib.ListN.{length}
use lib.Dec.{eqb}
use borrow.Author.Tests.{ne_eqb}
use Rattle.wire.specs.Answers.{refusal_at}
use Rattle.wire.specs.Reading.{bytes}
use Rattle.wire.specs.Imei.{read_packed}
use Rattle.wire.proofs.Accepting.{pick-false}
use Rattle.wire.proofs.Walking.{short}
use Rattle.wire.proofs.Locality.{Local, local-then, local-pure, local-here, local-require, local-field, local-bytes}
use Rattle.wire.proofs.ImeiLocality.{packed-local}
use Rattle.command.specs.declared.Layout.{Layout}
use Rattle.command.specs.Commands.{command_body}
use Rattle.command.specs.Offending.{offending_text}

module _ (s : List ℕ) where
  missing : (at : ℕ) → offending_text s (short at) ≡ 0
  unfolding offending_text
  missing at = refl

  digit : (at : ℕ) → 0 ≤ at → offending_text s (refusal_at 15 at) ≡ 1
  unfolding offending_text
  digit at h = refl

  text : (at : ℕ) → 5 ≤ at → offending_text s (refusal_at 14 at) ≡ length s - at
  unfolding offending_text
  text at h = let other : at ≡ 1 → ⊥ = λ e. omega (arith, h, e) in pick-false (eqb at 1) 4 (length s - at) (ne_eqb at 1 other)

  pub body-local : (l : Layout) (space : ℕ) → Local offending_text (command_body l space) s 0
  unfolding command_body offending_text
  body-local l space =
      local-here s 0 (omega arith) _ (local-field s missing 0 (omega arith) 1 _ (λ h₁.
      local-require s 1 h₁ _ 13 0 _ (λ _. omega arith) (λ _.
      local-here s 1 h₁ _ (local-field s missing 1 h₁ 4 _ (λ h₂.
      local-here s 5 h₂ _
      (local-require s 5 h₂ _ 14 1 _ (λ _. (omega arith, h₂)) (λ _.
      local-require s 5 h₂ _ 14 1 _ (λ _. (omega arith, h₂)) (λ _.
      local-then (read_packed l.imei) _ s 5 (packed-local s missing 0 digit l.imei 5 h₂ (omega arith)) (λ imei time_at e₃ o₃ h₃.
      local-field s missing time_at h₃ l.time _ (λ h₄.
      let text_at = time_at + l.time in
      local-here s text_at h₄ _
      (local-then (bytes _) _ s text_at (local-bytes s missing text_at h₄ _) (λ t end e₅ o₅ h₅.
      local-require s end h₅ _ 14 text_at _ (λ _. omega (arith, text text_at (omega (arith, o₃)), o₅, h₅, h₄)) (λ _.
      local-pure s end h₅ _)))))))))))))
