-- The frame, then the data field.
use Rattle.wire.proofs.Passing.{given_back}
use Rattle.std.specs.Prelude.{Ok}
use Prim.Native.Nat.{ℕ, ◌+◌, ◌-◌, ◌≤◌}
use native.Mathlib.Omega.{arith}
use mathlib.Core.Path.{◌≡◌, sym, ap, ◌∙◌}
use lib.Seq.{length-take-le}
use lib.ListN.{length, take, drop, length-drop}
use Rattle.wire.specs.Answers.{on_accepted}
use Rattle.wire.proofs.Widths.{get_d-bytes}
use Rattle.frame.specs.Frame.{unframe}
use Rattle.frame.proofs.FramingLaws.{framing-field, framing-unframed}
use Rattle.command.specs.Commands.{answered, read_command, answer_command}
use Rattle.command.proofs.judge_command.Goals as goal

pub overflow_add-end : goal.overflow_add-end
overflow_add-end c =
    let field : let p = c.args.p.now in let n = c.in_ok-size.size in
    (unframe c.args.limits.largest p ≡ Ok (take (8 + n - 8) (drop 8 p))) × (length p ≡ n + 12) × (3 ≤ n) = let p = c.args.p.now in
    let n = c.in_ok-size.size in
    let size : n ≡ 8 + n - 8 = omega arith in
    let k = framing-field _ p n (sym c.in_ok-size.ensures) (get_d-bytes p (λ i. (c.type_inv.p i).fits)) in
    (k.0 ∙ ap (λ (m : ℕ). Ok (take m (drop 8 p))) size, k.1, k.2) in omega (arith, field)

pub slice_bounds-read_field-end : goal.slice_bounds-read_field-end
slice_bounds-read_field-end c =
    let field : let p = c.args.p.now in let n = c.in_ok-size.size in
    (unframe c.args.limits.largest p ≡ Ok (take (8 + n - 8) (drop 8 p))) × (length p ≡ n + 12) × (3 ≤ n) = let p = c.args.p.now in
    let n = c.in_ok-size.size in
    let size : n ≡ 8 + n - 8 = omega arith in
    let k = framing-field _ p n (sym c.in_ok-size.ensures) (get_d-bytes p (λ i. (c.type_inv.p i).fits)) in
    (k.0 ∙ ap (λ (m : ℕ). Ok (take m (drop 8 p))) size, k.1, k.2) in omega (arith, field)

pub read_field-requires : goal.read_field-requires
read_field-requires c =
    let field : let p = c.args.p.now in let n = c.in_ok-size.size in
    (unframe c.args.limits.largest p ≡ Ok (take (8 + n - 8) (drop 8 p))) × (length p ≡ n + 12) × (3 ≤ n) = let p = c.args.p.now in
    let n = c.in_ok-size.size in
    let size : n ≡ 8 + n - 8 = omega arith in
    let k = framing-field _ p n (sym c.in_ok-size.ensures) (get_d-bytes p (λ i. (c.type_inv.p i).fits)) in
    (k.0 ∙ ap (λ (m : ℕ). Ok (take m (drop 8 p))) size, k.1, k.2) in
    let p = c.args.p.now in
    let n = c.in_ok-size.size in
    let inside : 8 + n - 8 ≤ length (drop 8 p) = omega (arith, length-drop 8 p, field) in
    omega (arith, length-take-le (8 + n - 8) (drop 8 p) inside, field)

pub returns-in_err-size : goal.returns-in_err-size
unfolding answer_command answered read_command on_accepted
returns-in_err-size c = simp (given_back c.from_residual.ensures.1, (framing-unframed _ _ (sym c.in_err-size.ensures)).0)

pub returns : goal.returns
unfolding answer_command read_command answered on_accepted
returns c =
    let field : let p = c.args.p.now in let n = c.in_ok-size.size in
    (unframe c.args.limits.largest p ≡ Ok (take (8 + n - 8) (drop 8 p))) × (length p ≡ n + 12) × (3 ≤ n) = let p = c.args.p.now in
    let n = c.in_ok-size.size in
    let size : n ≡ 8 + n - 8 = omega arith in
    let k = framing-field _ p n (sym c.in_ok-size.ensures) (get_d-bytes p (λ i. (c.type_inv.p i).fits)) in
    (k.0 ∙ ap (λ (m : ℕ). Ok (take m (drop 8 p))) size, k.1, k.2) in c.read_field.ensures ∙ simp field.0
