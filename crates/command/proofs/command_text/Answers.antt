-- The text stands at its offset.
use Rattle.std.specs.Prelude.{Ok}
use Prim.Native.Nat.{ℕ, ◌+◌, ◌-◌, ◌≤◌}
use native.Mathlib.Omega.{arith}
use mathlib.Core.Path.{◌≡◌, sym, ap, ◌∙◌}
use lib.ListN.{length, take, drop}
use Rattle.wire.specs.Limits.{limits_of}
use Rattle.wire.specs.Places.{behind}
use Rattle.wire.proofs.Widths.{get_d-bytes}
use Rattle.command.specs.Commands.{Command, read_command, text_view, text_offset}
use Rattle.command.proofs.TextLaws.{text-stands, text-refused}
use Rattle.command.proofs.command_text.Goals as goal

pub overflow_add-end : goal.overflow_add-end
overflow_add-end c =
    let text : let p = c.args.p.now in let f = c.in-Ok.f in
    (d : Command) × (read_command (limits_of c.args.family) p ≡ Ok d) × (take f.size (drop f.offset p) ≡ d.text) × (f.offset + f.size ≤ length p) = let p = c.args.p.now in
    text-stands (limits_of c.args.family) p _ (get_d-bytes p (λ i. (c.type_inv.p i).fits)) (sym c.read_command.ensures ∙ c.in-Ok.is) in omega (arith, text.3)

pub slice_bounds-result-end : goal.slice_bounds-result-end
slice_bounds-result-end c =
    let text : let p = c.args.p.now in let f = c.in-Ok.f in
    (d : Command) × (read_command (limits_of c.args.family) p ≡ Ok d) × (take f.size (drop f.offset p) ≡ d.text) × (f.offset + f.size ≤ length p) = let p = c.args.p.now in
    text-stands (limits_of c.args.family) p _ (get_d-bytes p (λ i. (c.type_inv.p i).fits)) (sym c.read_command.ensures ∙ c.in-Ok.is) in omega (arith, text.3)

pub returns-in-Ok : goal.returns-in-Ok
unfolding text_view text_offset
returns-in-Ok c =
    let text : let p = c.args.p.now in let f = c.in-Ok.f in
    (d : Command) × (read_command (limits_of c.args.family) p ≡ Ok d) × (take f.size (drop f.offset p) ≡ d.text) × (f.offset + f.size ≤ length p) = let p = c.args.p.now in
    text-stands (limits_of c.args.family) p _ (get_d-bytes p (λ i. (c.type_inv.p i).fits)) (sym c.read_command.ensures ∙ c.in-Ok.is) in
    let f = c.in-Ok.f in
    let t = text in
    let size : f.offset + f.size - f.offset ≡ f.size = omega arith in
    let args = c.args in
    let fields = sym c.read_command.ensures ∙ c.in-Ok.is in
    record { bytes = ap (λ (n : ℕ). take n (drop f.offset args.p.now)) size ∙ t.2 ∙ sym (ap text_view t.1); place = ap (behind args.p.ref_ptr) (sym (ap text_offset fields)) }

pub returns-in-Err : goal.returns-in-Err
unfolding text_offset
returns-in-Err c =
    let p = c.args.p in
    let refusal = sym c.read_command.ensures ∙ c.in-Err.is in
    record { bytes = sym (text-refused _ p.now (get_d-bytes p.now (λ i. (c.type_inv.p i).fits)) refusal); place = ap (behind p.ref_ptr) (sym (ap text_offset refusal)) }
