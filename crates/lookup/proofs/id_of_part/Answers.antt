use Rattle.wire.specs.Answers.{Answer, on_accepted}
use Rattle.lookup.specs.declared.Part.{Part}
use Rattle.lookup.proofs.PartLaws.{of-refused}
use Rattle.lookup.specs.Lookups.{or_none}
use Rattle.lookup.specs.Answers.{answer_value, ValueIn, PassedIn}
use Rattle.element.specs.Elements.{first_with}
use mathlib.Core.Path.{refl, sym, subst}
use Rattle.lookup.proofs.id_of_part.Goals as goal

pub id_at-requires : goal.id_at-requires
id_at-requires c = c.requires.stands _ _ _ _ c.in-Ok.is

pub returns-in-Err : goal.returns-in-Err
unfolding answer_value on_accepted or_none
returns-in-Err c = record { value = of-refused c.in-Err.is refl; passed = of-refused c.in-Err.is refl }

pub returns-in-Ok : goal.returns-in-Ok
returns-in-Ok c = record { value = subst (λ (q : Answer Part). ValueIn c.args.p.now q (first_with c.args.id) c.id_at.result.answer) (sym c.in-Ok.is) c.id_at.ensures.value; passed = subst (λ (q : Answer Part). PassedIn c.args.p.now q c.args.id c.id_at.result.passed) (sym c.in-Ok.is) c.id_at.ensures.passed }
