-- The row, the quantities, then the walk between them.
use Rattle.std.specs.Prelude.{Err, Ok}
use Prim.Native.Nat.{ℕ, ◌-◌}
use native.Mathlib.Omega.{arith}
use mathlib.Core.Path.{◌≡◌, sym, ap, ◌∙◌}
use mathlib.Core.List.{List}
use lib.ListN.{length, take, drop}
use Rattle.wire.specs.Envelope.{codec_of, first_count, last_count, inner}
use Rattle.wire.specs.Answers.{on_accepted}
use Rattle.wire.proofs.Widths.{get_d-bytes}
use Rattle.wire.proofs.Accepting.{from-refused}
use Rattle.command.specs.declared.Layout.{Layout}
use Rattle.command.specs.Walks.{body_as}
use Rattle.command.specs.Commands.{answered, command_body}
use Rattle.command.specs.Layouts.{layout_of, row_as}
use Rattle.command.proofs.FieldLaws.{codec-unknown, text-last, first-wrong, last-wrong, field-taken, field-stopped, stopped-inside}
use Rattle.command.proofs.CommandLaws.{layout-narrow}
use Rattle.command.proofs.read_field.Goals as goal

-- the part that is lent stands between the quantities
lent : (l : Layout) (d : List ℕ) → let s = take (length d - 1 - 2) (drop 2 d) in
    body_as (command_body l (length s) s 0) ≡ body_as (command_body l (length (inner d)) (inner d) 0)
unfolding inner
lent l d =
    let size : length d - 1 - 2 ≡ length d - 3 = omega arith in
    ap (λ (n : ℕ). body_as (command_body l (length (take n (drop 2 d))) (take n (drop 2 d)) 0)) size

pub returns-then-d-ne1 : goal.returns-then-d-ne1
unfolding answered on_accepted first_count row_as codec_of
returns-then-d-ne1 c =
    let found : layout_of (codec_of c.args.d.now) ≡ Ok c.in-Some.l = sym c.layout_of.ensures ∙ ap row_as c.in-Some.is in simp (c.at-then-d-ne1.ensures, from-refused 8 _ (first-wrong c.args.d.now found c.if-d-ne1.true))

pub returns-then-d-last-ne1 : goal.returns-then-d-last-ne1
unfolding answered on_accepted first_count last_count row_as codec_of
returns-then-d-last-ne1 c =
    let found : layout_of (codec_of c.args.d.now) ≡ Ok c.in-Some.l = sym c.layout_of.ensures ∙ ap row_as c.in-Some.is in simp (c.at-then-d-last-ne1.ensures, from-refused 8 _ (last-wrong c.args.d.now found c.if-d-ne1.false c.if-d-last-ne1.true))

pub read_body-requires : goal.read_body-requires
unfolding row_as codec_of
read_body-requires c =
    let found : layout_of (codec_of c.args.d.now) ≡ Ok c.in-Some.l = sym c.layout_of.ensures ∙ ap row_as c.in-Some.is in layout-narrow _ found

pub overflow_sub-result : goal.overflow_sub-result
unfolding row_as codec_of
overflow_sub-result c =
    let found : layout_of (codec_of c.args.d.now) ≡ Ok c.in-Some.l = sym c.layout_of.ensures ∙ ap row_as c.in-Some.is in omega (arith, text-last c.args.d.now found (get_d-bytes c.args.d.now (λ i. (c.shared_slice_known-1.given i).fits)) c.requires (sym (lent _ c.args.d.now) ∙ sym c.read_body.ensures ∙ c.in-Ok.is))

-- the fault's place lies in the data field
pub overflow_add-result : goal.overflow_add-result
unfolding row_as codec_of
overflow_add-result c =
    let found : layout_of (codec_of c.args.d.now) ≡ Ok c.in-Some.l = sym c.layout_of.ensures ∙ ap row_as c.in-Some.is in omega (arith, text-last c.args.d.now found (get_d-bytes c.args.d.now (λ i. (c.shared_slice_known-1.given i).fits)) c.requires (sym (lent _ c.args.d.now) ∙ sym c.read_body.ensures ∙ c.in-Ok.is))

-- the fault's place lies in the data field
pub overflow_add-result-in-Err : goal.overflow_add-result-in-Err
overflow_add-result-in-Err c = omega (arith, stopped-inside _ c.args.d.now c.requires (sym (lent _ c.args.d.now) ∙ sym c.read_body.ensures ∙ c.in-Err.is))

pub overflow_add-result-in-Err-2 : goal.overflow_add-result-in-Err-2
overflow_add-result-in-Err-2 c = omega (arith, stopped-inside _ c.args.d.now c.requires (sym (lent _ c.args.d.now) ∙ sym c.read_body.ensures ∙ c.in-Err.is))

pub returns-in_default : goal.returns-in_default
unfolding answered on_accepted codec_of row_as
returns-in_default c = simp (c.at.ensures, from-refused 8 _ (codec-unknown c.args.d.now (sym c.layout_of.ensures ∙ ap row_as c.in_default.is)))

pub returns-in-Ok : goal.returns-in-Ok
unfolding codec_of first_count last_count row_as
returns-in-Ok c =
    let found : layout_of (codec_of c.args.d.now) ≡ Ok c.in-Some.l = sym c.layout_of.ensures ∙ ap row_as c.in-Some.is in sym (field-taken c.args.d.now found c.if-d-ne1.false c.if-d-last-ne1.false (get_d-bytes c.args.d.now (λ i. (c.shared_slice_known-1.given i).fits)) c.requires (sym (lent _ c.args.d.now) ∙ sym c.read_body.ensures ∙ c.in-Ok.is))

pub returns-in-Err : goal.returns-in-Err
unfolding first_count last_count row_as codec_of
returns-in-Err c =
    let found : layout_of (codec_of c.args.d.now) ≡ Ok c.in-Some.l = sym c.layout_of.ensures ∙ ap row_as c.in-Some.is in sym (field-stopped c.args.d.now found c.if-d-ne1.false c.if-d-last-ne1.false (sym (lent _ c.args.d.now) ∙ sym c.read_body.ensures ∙ c.in-Err.is))
