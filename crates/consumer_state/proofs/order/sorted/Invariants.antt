use Rattle.std.proofs.Common.{take, map}
use Rattle.broker_link.specs.Fetching.{at_of}
use Rattle.consumer_state.specs.Order.{AreSorted}
use Rattle.consumer_state.proofs.order.sorted.Given as goal

abbrev pub invariant-loop-part : goal.invariant-loop-part
invariant-loop-part l = AreSorted (map at_of (take l.part-index l.parts)) (map at_of l.sorted.items)
