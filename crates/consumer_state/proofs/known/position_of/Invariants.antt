use Rattle.std.proofs.Common.{◌≡◌, drop, map}
use Rattle.model.specs.state.World.{position_in}
use Rattle.broker_link.specs.Fetching.{named_at}
use Rattle.broker_link.specs.Places.{place_of}
use Rattle.consumer_state.proofs.known.position_of.Given as goal

abbrev pub invariant-loop-place : goal.invariant-loop-place
invariant-loop-place l = position_in (map place_of l.kept) (named_at l.topic l.partition) ≡ position_in (map place_of (drop l.place-index l.kept)) (named_at l.topic l.partition)
