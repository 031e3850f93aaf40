use Rattle.connection.proofs.GatherLaws.{at-once-part, at-once-taken, at-once-held}
use Rattle.connection.proofs.FeedLaws.{by-taken}
use Rattle.connection.specs.Feeding.{outcome}
use lib.Dec.{lit≤}
use mathlib.Core.Path.{sym, ◌∙◌}
use Rattle.connection.proofs.feed_open.Goals as goal

pub settle-requires : goal.settle-requires
settle-requires c = at-once-part c.requires c.args.bytes.now (lit≤ tt) c.if-fill-eq0.true c.in-Ok.n (sym c.needed.ensures ∙ c.in-Ok.is) c.if-n-bytes.true

pub returns-then-n-bytes : goal.returns-then-n-bytes
unfolding outcome
returns-then-n-bytes c = by-taken c.requires c.args.bytes.now (at-once-taken c.requires c.args.bytes.now (lit≤ tt) c.if-fill-eq0.true c.in-Ok.n (sym c.needed.ensures ∙ c.in-Ok.is) c.if-n-bytes.true) (record { answer = c.settle.ensures.answer; state = at-once-held c.requires c.args.bytes.now (lit≤ tt) c.if-fill-eq0.true c.in-Ok.n (sym c.needed.ensures ∙ c.in-Ok.is) c.if-n-bytes.true _; buffer = c.settle.ensures.buffer })
