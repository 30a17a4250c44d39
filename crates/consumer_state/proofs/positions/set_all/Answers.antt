use Rattle.std.proofs.Common.{map, [], ◌∷◌}
use Rattle.broker_link.specs.Places.{place_of}
use Rattle.consumer_state.proofs.PositionLemmas.{order_set, set_next}
use Rattle.consumer_state.proofs.positions.set_all.Goals as goal

pub loop-new-preserved : goal.loop-new-preserved
loop-new-preserved c = record {
  places = set_next c.args.news.now c.loop-new.new-index c.new-item.result (map place_of c.args.places.now) (map place_of c.loop-new.places) (map place_of c.set_one.new.places) c.loop-new-test.true c.new-item.is
      c.loop-new.invariant.places c.set_one.ensures.places;
  order = order_set (map place_of c.loop-new.places) (place_of c.new-item.result ∷ []) (map place_of c.set_one.new.places) c.set_one.ensures.places c.loop-new.invariant.order;
  low = λ h. c.set_one.ensures.low (c.loop-new.invariant.low h);
}
