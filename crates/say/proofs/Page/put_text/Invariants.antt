-- Invariant: what is left of the text, put here, gives the whole.
use Rattle.std.proofs.Common.{◌≡◌, drop}
use Rattle.say.proofs.PageLaws.{Left}
use Rattle.say.proofs.Page.put_text.Given as goal

abbrev pub invariant-loop-b : goal.invariant-loop-b
invariant-loop-b l = (l.self.bytes.ghost_name ≡ l.initial.self.bytes.ghost_name) × Left l.s l.initial.self.bytes.now l.initial.self.at (drop l.b-index l.s) l.self.bytes.now l.self.at
