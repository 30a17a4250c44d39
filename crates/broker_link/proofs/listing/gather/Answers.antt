use Rattle.broker_link.proofs.Infos.{gathered_next, few_parts}
use Rattle.broker_link.proofs.listing.gather.Goals as goal

pub loop-topic-preserved : goal.loop-topic-preserved
loop-topic-preserved c = record {
  nodes = c.in_ok-gather_one.ensures.nodes c.loop-topic.invariant.nodes;
  gathered = λ plans.
      let few = few_parts c.args.topics.now c.loop-topic.topic-index c.topic-item.result plans c.loop-topic-test.true c.topic-item.is in
      gathered_next _ c.args.topics.now c.loop-topic.topic-index c.topic-item.result c.loop-topic.infos.items c.gather_one.new.infos.items plans c.loop-topic-test.true c.topic-item.is
      (c.loop-topic.invariant.gathered plans) (c.in_ok-gather_one.ensures.takes few);
}
