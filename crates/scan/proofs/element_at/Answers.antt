use Rattle.std.specs.Prelude.{Err}
use mathlib.Core.Path.{ap, ◌∙◌, refl}
use Rattle.scan.proofs.WalkLaws.{cut-body}
use Rattle.scan.proofs.AnswerLaws.{answers-refused, answers-as, at-behind, standing-at}
use Rattle.scan.proofs.element_at.Goals as goal

pub returns-then-s-at : goal.returns-then-s-at
returns-then-s-at c = record { answer = ap Err c.of.ensures ∙ (answers-refused _ _ (at-behind c.args.s.now c.args.at c.if-s-at.true)).0; buffer = (answers-refused _ _ (at-behind c.args.s.now c.args.at c.if-s-at.true)).1 }

pub returns : goal.returns
returns c = record { answer = (answers-as _ _ (standing-at c.args.s.now c.args.at (cut-body c.args.s.now refl)) (c.element_from.ensures.answer, c.element_from.ensures.buffer)).0; buffer = (answers-as _ _ (standing-at c.args.s.now c.args.at (cut-body c.args.s.now refl)) (c.element_from.ensures.answer, c.element_from.ensures.buffer)).1 }
