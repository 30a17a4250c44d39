use Rattle.std.proofs.Common.{◌≡◌, take, map}
use Rattle.model.specs.state.World.{IsLow, moved_places}
use Rattle.instance.specs.Walk.{item_in, lots_of}
use Rattle.broker_link.specs.Places.{place_of}
use Rattle.instance.proofs.moves.advance.Given as goal

abbrev pub invariant-loop-pick : goal.invariant-loop-pick
invariant-loop-pick l = record {
  places : map place_of l.assignment ≡ moved_places (map (item_in (lots_of l.fn.assignment l.fetched)) (take l.pick-index l.picks)) (map place_of l.fn.assignment);
  low : IsLow (map place_of l.fn.assignment) → IsLow (map place_of l.assignment);
}
