use Rattle.std.specs.Prelude.{Err}
use Rattle.wire.proofs.Accepting.{told-whole}
use Rattle.wire.proofs.Walking.{number-there, require-bad}
use Rattle.wire.proofs.Exactness.{here-got, require-got}
use Rattle.wire.specs.Answers.{told}
use Rattle.wire.specs.Imei.{read_imei}
use borrow.Author.Tests.{eq-eqb, ne_eqb}
use mathlib.Core.Path.{sym, ap, ◌∙◌}
use native.Mathlib.Omega.{arith}
use Rattle.wire.proofs.read_imei.Goals as goal

pub returns-then-be16-ne15 : goal.returns-then-be16-ne15
unfolding read_imei
returns-then-be16-ne15 c =
    let other = ne_eqb _ _ (λ e. c.if-be16-ne15.true (c.be16.ensures ∙ e)) in
    ap Err c.at.ensures ∙ sym (told-whole _ (here-got _ _ _ ∙ number-there _ c.args.s.now c.args.at 2 (omega (arith, c.requires)) ∙ require-bad _ _ _ _ _ _ other))

pub returns : goal.returns
unfolding read_imei
returns c =
    let fifteen = eq-eqb _ _ (sym c.be16.ensures ∙ c.if-be16-ne15.false) in
    c.text_number.ensures ∙ ap (told 0) (sym (here-got _ _ _ ∙ number-there _ c.args.s.now c.args.at 2 (omega (arith, c.requires)) ∙ require-got _ _ _ _ _ _ fifteen))
