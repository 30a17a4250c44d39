use Rattle.std.specs.Prelude.{All}
use Rattle.broker_link.specs.declared.link.TopicInfo.{TopicInfo}
use Rattle.topic_reads.proofs.Topics.{first_of, topic_gone, topic_there}
use Rattle.topic_reads.proofs.find.topic_info.Goals as goal

pub returns-then-is_empty-clause-found : goal.returns-then-is_empty-clause-found
returns-then-is_empty-clause-found g c = λ tells log.
    let a = g.L.Link.stand c.args.link.now in
    let m = g.L.Link.stand c.metadata.new.self in
    let goes = c.metadata.ensures.goes.goes in
    topic_gone a.log m.log c.args.topic.now c.in_ok-infos.infos (goes.is_log tells log) (goes.keeps tells) (c.in_ok-infos.ensures.known tells) (c.is_empty.ensures.0 c.if-is_empty.true)

pub returns-clause-found : goal.returns-clause-found
returns-clause-found g c = λ tells log.
    let a = g.L.Link.stand c.args.link.now in
    let m = g.L.Link.stand c.metadata.new.self in
    let goes = c.metadata.ensures.goes.goes in
    topic_there a.log m.log c.args.topic.now c.in_ok-infos.infos c.remove.result (goes.is_log tells log) (goes.keeps tells) (c.in_ok-infos.ensures.known tells) c.remove.ensures.item

pub returns-clause-nodes : goal.returns-clause-nodes
returns-clause-nodes g c = first_of (λ (info : TopicInfo). All (g.L.Link.stand c.args.link.now).nodes info.parts) c.in_ok-infos.infos c.remove.result c.in_ok-infos.ensures.nodes c.remove.ensures.item
