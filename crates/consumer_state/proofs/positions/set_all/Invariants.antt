use Rattle.std.proofs.Common.{◌≡◌, map, take}
use Rattle.model.specs.state.World.{IsInOrder, IsLow, with_positions}
use Rattle.broker_link.specs.Places.{place_of}
use Rattle.consumer_state.proofs.positions.set_all.Given as goal

abbrev pub invariant-loop-new : goal.invariant-loop-new
invariant-loop-new l = record {
  places : map place_of l.places ≡ with_positions (map place_of (take l.new-index l.news)) (map place_of l.fn.places);
  order : IsInOrder (map place_of l.places);
  low : IsLow (map place_of l.fn.places) → IsLow (map place_of l.places);
}
