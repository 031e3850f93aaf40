-- The row, what was decided, then the packet.
use Rattle.wire.proofs.Passing.{given_back}
use Rattle.std.specs.Prelude.{Ok}
use Prim.Native.Nat.{ℕ}
use mathlib.Core.Path.{◌≡◌, sym, ap, ◌∙◌}
use Rattle.wire.specs.Buffers.{writing, leaving}
use Rattle.wire.specs.Answers.{on_accepted}
use Rattle.command.specs.Writing.{bytes_within}
use Rattle.command.specs.Walks.{planned}
use Rattle.command.specs.Layouts.{layout_of, row_as}
use Rattle.command.proofs.CommandLaws.{layout-codec, layout-narrow}
use Rattle.command.proofs.write_within.Goals as goal

pub plan-requires : goal.plan-requires
unfolding row_as
plan-requires c =
    let found : layout_of c.args.codec ≡ Ok c.in-Some.l = sym c.layout_of.ensures ∙ ap row_as c.in-Some.is in
    let own : layout_of c.in-Some.l.codec ≡ Ok c.in-Some.l = ap layout_of (layout-codec _ found) ∙ found in own

pub write_planned-requires : goal.write_planned-requires
unfolding row_as
write_planned-requires c =
    let found : layout_of c.args.codec ≡ Ok c.in-Some.l = sym c.layout_of.ensures ∙ ap row_as c.in-Some.is in layout-narrow _ found

pub returns-in_default : goal.returns-in_default
unfolding writing leaving bytes_within on_accepted row_as
returns-in_default c =
    let unknown = sym c.layout_of.ensures ∙ ap row_as c.in_default.is in
    record { result_value = simp (c.of.ensures, unknown); out_after = simp unknown }

pub returns : goal.returns
unfolding row_as
returns c =
    let found : layout_of c.args.codec ≡ Ok c.in-Some.l = sym c.layout_of.ensures ∙ ap row_as c.in-Some.is in
    let bytes : let a = c.args in
    planned c.in-Some.l a.kind a.time a.text.now c.plan.result ≡ bytes_within a.limits a.codec a.kind a.imei.now a.time a.text.now = let a = c.args in
    c.plan.ensures a.time ∙ ap (λ (k : ℕ). bytes_within a.limits k a.kind a.imei.now a.time a.text.now) (layout-codec _ found) in
    let same = ap (planned _ _ _ _) (sym c.in_ok-n.was) ∙ bytes in
    record { result_value = c.write_planned.ensures.result_value ∙ ap (λ r. writing r c.args.out.now) same; out_after = c.write_planned.ensures.out_after ∙ ap (λ r. leaving r c.args.out.now) same }

pub returns-in_err-n : goal.returns-in_err-n
unfolding planned on_accepted writing leaving row_as
returns-in_err-n c =
    let found : layout_of c.args.codec ≡ Ok c.in-Some.l = sym c.layout_of.ensures ∙ ap row_as c.in-Some.is in
    let bytes : let a = c.args in
    planned c.in-Some.l a.kind a.time a.text.now c.plan.result ≡ bytes_within a.limits a.codec a.kind a.imei.now a.time a.text.now = let a = c.args in
    c.plan.ensures a.time ∙ ap (λ (k : ℕ). bytes_within a.limits k a.kind a.imei.now a.time a.text.now) (layout-codec _ found) in
    let bad = sym bytes ∙ ap (planned _ _ _ _) c.in_err-n.was in
    record { result_value = simp (given_back c.from_residual.ensures.1, bad); out_after = simp bad }
