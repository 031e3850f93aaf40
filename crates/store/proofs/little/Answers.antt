-- Where the end comes first, the bytes that are there make up the number.
use Rattle.std.proofs.Common.{sym, ◌∙◌, arith}
use Rattle.store.proofs.LittleLaws.{little-past, little-there}
use Rattle.store.proofs.little.Goals as goal

pub returns-then-at-f : goal.returns-then-at-f
returns-then-at-f c = c.little-then-at-f.ensures ∙ little-there c.args.f.now c.args.at c.args.w (omega arith) (omega arith)

pub returns : goal.returns
returns c = sym (little-past c.args.f.now c.args.at c.args.w c.if-at-f.false)
