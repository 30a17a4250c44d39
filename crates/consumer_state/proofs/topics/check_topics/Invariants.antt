use Rattle.std.proofs.Common.{take, map}
use Rattle.model.specs.state.Log.{IsLog}
use Rattle.broker_link.specs.Fetching.{at_of}
use Rattle.broker_link.specs.Replies.{CountsKept}
use Rattle.consumer_state.specs.Topics.{Pass}
use Rattle.consumer_state.specs.LinkCalls.{GoesOn}
use Rattle.consumer_state.proofs.topics.check_topics.Given as goal

abbrev pub invariant-loop-place : goal.invariant-loop-place
invariant-loop-place g l = record {
  goes : GoesOn (g.L.Link.stand l.fn.link) (g.L.Link.stand l.link);
  kept : CountsKept (g.L.Link.stand l.fn.link).counts (g.L.Link.stand l.link).counts;
  pass : (g.L.Link.stand l.fn.link).tells → IsLog (g.L.Link.stand l.fn.link).log → Pass (g.L.Link.stand l.fn.link).log (map at_of l.parts) (take l.place (map at_of l.parts));
}
