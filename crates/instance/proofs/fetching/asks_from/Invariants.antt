use Rattle.std.proofs.Common.{◌≡◌, take, map}
use Rattle.instance.specs.Gathering.{asked}
use Rattle.broker_link.specs.Places.{place_of}
use Rattle.instance.proofs.fetching.asks_from.Given as goal

abbrev pub invariant-loop-place : goal.invariant-loop-place
invariant-loop-place l = map asked l.asks.items ≡ map place_of (take l.place-index l.places)
