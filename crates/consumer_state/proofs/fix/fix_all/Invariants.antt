use Rattle.std.proofs.Common.{◌≡◌, take, map}
use Rattle.model.specs.state.Log.{IsLog}
use Rattle.model.specs.state.World.{IsLow}
use Rattle.broker_link.specs.Fetching.{at_of, edge_view}
use Rattle.broker_link.specs.Replies.{CountsKept}
use Rattle.consumer_state.specs.Fix.{AreFixed}
use Rattle.consumer_state.specs.LinkCalls.{GoesOn}
use Rattle.broker_link.specs.Places.{at_in, place_of}
use Rattle.consumer_state.proofs.fix.fix_all.Given as goal

abbrev pub invariant-loop-i : goal.invariant-loop-i
invariant-loop-i g l = record {
  goes : GoesOn (g.L.Link.stand l.fn.link) (g.L.Link.stand l.link);
  kept : CountsKept (g.L.Link.stand l.fn.link).counts (g.L.Link.stand l.link).counts;
  whose : map at_in l.places.items ≡ map at_of (take l.i l.parts);
  small : IsLow (map place_of l.places.items);
  fixed : (g.L.Link.stand l.fn.link).tells → IsLog (g.L.Link.stand l.fn.link).log
      → AreFixed (edge_view l.reset) (g.L.Link.stand l.fn.link).log (map at_of (take l.i l.parts)) (take l.i l.known) (map place_of l.places.items) (g.L.Link.stand l.link).log;
}
