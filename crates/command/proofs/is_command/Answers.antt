-- Under nine bytes there is no codec, and 0 has no row.
use mathlib.Core.Path.{◌≡◌, refl, sym, ap, ◌∙◌}
use mathlib.Core.Bool.{false}
use Rattle.std.proofs.Common.{Option, Some, None, is_some}
use Rattle.command.specs.declared.Layout.{Layout}
use mathlib.Core.List.{List}
use Prim.Native.Nat.{ℕ, ◌≤◌}
use lib.ListN.{length, get_or-eq_default}
use Rattle.wire.specs.Answers.{is_accepted}
use Rattle.command.specs.Layouts.{layouts, find_layout, layout_of, row_as, is_command}
use Rattle.command.proofs.is_command.Goals as goal

short : (p : List ℕ) → length p ≤ 8 → is_command p ≡ false
unfolding is_accepted layouts find_layout layout_of
short p h = ap (λ (codec : ℕ). is_accepted (layout_of codec)) (get_or-eq_default p 0 h)

pub returns-then-p-le8 : goal.returns-then-p-le8
returns-then-p-le8 c = sym (short c.args.p.now c.if-p-le8.true)

known : (r : Option Layout) → is_some r ≡ is_accepted (row_as r)
unfolding is_accepted row_as
known (Some l) = refl
known None = refl

pub returns : goal.returns
returns c = c.is_some.ensures ∙ known c.layout_of.result ∙ ap is_accepted c.layout_of.ensures
