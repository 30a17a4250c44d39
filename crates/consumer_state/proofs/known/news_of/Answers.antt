use Rattle.std.proofs.Common.{map}
use Rattle.consumer_state.specs.Fix.{is_new}
use Rattle.broker_link.specs.Places.{place_of}
use Rattle.consumer_state.proofs.Knowing.{news_next}
use Rattle.consumer_state.proofs.known.news_of.Goals as goal

pub loop-part-preserved : goal.loop-part-preserved
loop-part-preserved c =
    news_next (is_new (map place_of c.args.kept.now)) c.args.parts.now c.loop-part.part-index c.part-item.result c.loop-part.news.items c.put_new.new.news.items c.loop-part-test.true c.part-item.is
    c.loop-part.invariant c.in_ok-put_new.ensures
