-- The table of feeds holds: each row computes.
use mathlib.Core.Path.{refl}
use Rattle.claims.specs.Rows.{AsSaid}
use Rattle.claims.specs.Feeds.{starts, feed_refusals, shut_feeds, feed_answers, wants, streams, AsThePaperFeeds}
use Rattle.claims.proofs.Computing.{computing}

started-as-said : AsSaid starts
unfolding computing starts
started-as-said = (refl, (refl, (refl, (refl, (refl, (refl, (refl, (refl, (refl, tt)))))))))

feed-refusals : AsSaid feed_refusals
unfolding computing feed_refusals
feed-refusals = (refl, (refl, (refl, (refl, (refl, (refl, (refl, (refl, (refl, (refl, (refl, (refl, (refl, (refl, (refl, (refl, (refl, (refl, (refl, (refl, (refl, (refl, (refl, (refl, (refl, (refl, (refl, (refl, tt))))))))))))))))))))))))))))

shut-feeds : AsSaid shut_feeds
unfolding computing shut_feeds
shut-feeds = (refl, (refl, (refl, (refl, (refl, (refl, (refl, (refl, (refl, (refl, (refl, (refl, (refl, (refl, (refl, (refl, (refl, (refl, (refl, (refl, (refl, tt)))))))))))))))))))))

feed-answers : AsSaid feed_answers
unfolding computing feed_answers
feed-answers = (refl, (refl, (refl, (refl, (refl, (refl, (refl, (refl, (refl, (refl, (refl, (refl, (refl, (refl, (refl, (refl, (refl, (refl, (refl, (refl, (refl, (refl, (refl, (refl, (refl, (refl, (refl, (refl, (refl, (refl, (refl, (refl, tt))))))))))))))))))))))))))))))))

wanted-as-said : AsSaid wants
unfolding computing wants
wanted-as-said = (refl, (refl, (refl, (refl, (refl, (refl, (refl, (refl, (refl, (refl, (refl, (refl, (refl, (refl, (refl, (refl, (refl, (refl, (refl, tt)))))))))))))))))))

streamed-as-said : AsSaid streams
unfolding computing streams
streamed-as-said = (refl, (refl, (refl, (refl, (refl, (refl, (refl, (refl, (refl, tt)))))))))

pub feed-table : AsThePaperFeeds
feed-table = (started-as-said, (feed-refusals, (shut-feeds, (feed-answers, (wanted-as-said, (streamed-as-said, tt))))))
