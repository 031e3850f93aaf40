-- The text of an accepted command stands in the packet at the offset that is answered.
use Rattle.std.specs.Prelude.{Err, Ok}
use Prim.Native.Nat.{ℕ, ◌+◌, ◌≤◌}
use native.Mathlib.Omega.{arith}
use mathlib.Core.Path.{◌≡◌, refl, sym, ap, ap₂, ◌∙◌}
use mathlib.Core.List.{List, []}
use lib.ListN.{length, take, drop}
use Rattle.wire.specs.declared.Limits.{Limits}
use Rattle.wire.specs.declared.Refusal.{Refusal}
use Rattle.wire.specs.Numbers.{Bytes, digits, be}
use Rattle.wire.specs.Envelope.{enclosed}
use Rattle.wire.specs.Answers.{Answer, on_accepted}
use Rattle.wire.specs.Imei.{packed}
use Rattle.wire.proofs.Placed.{Between, between_split, between-moved, between-bytes, between_is, between-whole}
use Rattle.wire.proofs.Accepting.{on_accepted-accepted, on_accepted-passed, first-refused}
use Rattle.frame.specs.Frame.{framed}
use Rattle.command.specs.declared.Layout.{Layout}
use Rattle.command.specs.declared.CommandFields.{CommandFields}
use Rattle.command.specs.Layouts.{layout_of, heading}
use Rattle.command.specs.Commands.{Command, body_bytes, command_field, read_command, answer_command, answered, text_view}
use Rattle.command.proofs.CommandLaws.{layout-unique, length-heading}
use Rattle.command.proofs.PacketLaws.{command-exact}

text-between : (l : Layout) (c : Command) (p : List ℕ) → p ≡ framed (command_field l c)
    → Between p (15 + heading l) c.text (15 + heading l + length c.text)
unfolding framed command_field enclosed digits
text-between l c p e =
    let d = command_field l c in
    let f₁ = between_split (be 4 0) (between-bytes e (between-whole p)) in
    let f₂ = between_split (be 4 (length d)) f₁.1 in
    let f₃ = between_split d f₂.1 in
    let g₁ = between_split (be 1 c.codec) f₃.0 in
    let g₂ = between_split (be 1 1) g₁.1 in
    let g₃ = between_split (body_bytes l c) g₂.1 in
    let h₁ = between_split (be 1 c.type) g₃.0 in
    let h₂ = between_split (be 4 (heading l + length c.text)) h₁.1 in
    let h₃ = between_split (packed l.imei c.imei) h₂.1 in
    let h₄ = between_split (be l.time c.time) h₃.1 in
    let start : 15 + length (packed l.imei c.imei) + length (be l.time c.time) ≡ 15 + heading l =
    omega (arith, length-heading l c.imei c.time) in
    between-moved start (h₄.1.size ∙ ap (λ (n : ℕ). n + length c.text) start) h₄.1

pub text-stands : (limits : Limits) (p : List ℕ) (f : CommandFields) → Bytes p → answer_command limits p ≡ Ok f
    → (c : Command) × (read_command limits p ≡ Ok c) × (take f.size (drop f.offset p) ≡ c.text) × (f.offset + f.size ≤ length p)
unfolding answer_command answered
text-stands limits p f h e =
    let read = on_accepted-accepted (read_command limits p) _ e in
    let c = read.0 in
    let row = on_accepted-accepted (layout_of c.codec) _ read.2 in
    let l = row.0 in
    let k = (command-exact limits p c h).0 read.1 in
    let same : k.row ≡ l = layout-unique c.codec k.rules.layout row.1 in
    let fields : ◌≡◌ {A = CommandFields} (record { codec = c.codec; kind = c.type; imei = c.imei; time = c.time; offset = 15 + heading l; size = length c.text }) f = cc in
    let offset : 15 + heading l ≡ f.offset = ap (λ (x : CommandFields). x.offset) fields in
    let size : length c.text ≡ f.size = ap (λ (x : CommandFields). x.size) fields in
    let text = text-between l c p (k.whole ∙ ap (λ (m : Layout). framed (command_field m c)) same) in
    (c, read.1, ap₂ (λ (n at : ℕ). take n (drop at p)) (sym size) (sym offset) ∙ between_is text, omega (arith, text.inside))

-- a refusal is the reader's own
pub command-refused : (limits : Limits) (p : List ℕ) {x : Refusal} → Bytes p → answer_command limits p ≡ Err x → read_command limits p ≡ Err x
unfolding answer_command answered
command-refused limits p h e =
    first-refused (read_command limits p) _ (λ c r.
    let k = (command-exact limits p c h).0 r in
    (_, on_accepted-passed (layout_of c.codec) _ k.rules.layout)) e

-- a refused packet has no text
pub text-refused : (limits : Limits) (p : List ℕ) {x : Refusal} → Bytes p → answer_command limits p ≡ Err x → text_view (read_command limits p) ≡ []
unfolding text_view
text-refused limits p h e = ap text_view (command-refused limits p h e)
