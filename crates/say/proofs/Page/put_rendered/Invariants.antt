-- Invariant: what is left of the text, rendered here, gives the whole.
use Rattle.std.proofs.Common.{◌≡◌}
use Rattle.say.specs.Rendering.{rendered}
use Rattle.say.proofs.PageLaws.{Left}
use Rattle.say.proofs.Page.put_rendered.Given as goal

abbrev pub invariant-loop-c : goal.invariant-loop-c
invariant-loop-c l = (l.self.bytes.ghost_name ≡ l.initial.self.bytes.ghost_name) × Left (rendered l.s l.numbers) l.initial.self.bytes.now l.initial.self.at (rendered l.text.rest.now l.values.rest.now) l.self.bytes.now l.self.at
