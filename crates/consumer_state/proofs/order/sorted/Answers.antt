use Rattle.consumer_state.proofs.Sorting.{sorted_next}
use Rattle.consumer_state.proofs.order.sorted.Goals as goal

pub loop-part-preserved : goal.loop-part-preserved
loop-part-preserved c =
    sorted_next c.args.parts.now c.loop-part.part-index c.part-item.result c.loop-part.sorted.items c.put.new.sorted.items c.loop-part-test.true c.part-item.is c.loop-part.invariant c.in_ok-put.ensures
