-- Invariant: what is left of the run, put here, gives the whole.
use Rattle.std.proofs.Common.{◌≡◌, ◌-◌, replicate}
use Rattle.say.proofs.PageLaws.{Left}
use Rattle.say.proofs.Page.put_times.Given as goal

abbrev pub invariant-loop : goal.invariant-loop
invariant-loop l = (l.self.bytes.ghost_name ≡ l.initial.self.bytes.ghost_name) × Left (replicate l.times l.b) l.initial.self.bytes.now l.initial.self.at (replicate (l.times - l.counter) l.b) l.self.bytes.now l.self.at
