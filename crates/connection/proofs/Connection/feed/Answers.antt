use Rattle.connection.specs.State.{gathered}
use Rattle.connection.proofs.FeedLaws.{fed-value}
use Rattle.wire.specs.Limits.{limits_of}
use Rattle.wire.proofs.LimitLaws.{limits-most}
use lib.Dec.{lit≤}
use Rattle.connection.proofs.Connection.feed.Goals as goal

pub returns : goal.returns
returns c = let self = c.args.self in
    fed-value self.family (limits_of self.family) 1280 (gathered self) c.args.bytes.now c.none-packet.result _ _ c.feed_lent-lent.result (lit≤ tt) (limits-most self.family).packets c.none-packet.ensures c.feed_lent-lent.ensures.answer c.feed_lent-lent.ensures.state c.feed_lent-lent.ensures.buffer
