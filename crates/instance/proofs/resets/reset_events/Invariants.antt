use Rattle.std.proofs.Common.{◌≡◌, take, map}
use Rattle.model.specs.state.Entry.Event.{Reset}
use Rattle.instance.specs.Ending.{own_of}
use Rattle.instance.specs.Gathering.{news_of}
use Rattle.broker_link.specs.Places.{place_of}
use Rattle.instance.proofs.resets.reset_events.Given as goal

abbrev pub invariant-loop-i : goal.invariant-loop-i
invariant-loop-i l = map own_of l.events ≡ map Reset (news_of (map place_of (take l.i l.places)) (take l.i l.told))
