use Rattle.std.proofs.Common.{Ok, ap, subst, sym}
use Rattle.broker_link.proofs.Going.{consults_once}
use Rattle.broker_link.specs.Fetching.{at_of}
use Rattle.broker_link.specs.Stands.{Consults}
use Rattle.rest_calls.specs.Questions.{question_of}
use Rattle.topic_reads.specs.Finding.{FindsEdges}
use Rattle.topic_reads.proofs.Finding.{brokers_answered, edges_answered, part_answered, parts_answered, topic_answered, topics_answered}
use Rattle.topic_reads.proofs.find.find.Goals as goal
use Rattle.topic_reads.proofs.find.find.Goals.{in-Brokers+in_ok-brokers-in-Brokers, in-Topics+in_ok-metadata-in-Topics, in-Topic+in_ok-topic_info-in-Topic, in-Partitions+in_ok-topic_info-in-Partitions, in-Partition+in_ok-part_info-in-Partition, in-EndOffsets+in_ok-start-in-EndOffsets}

pub returns-clause-consults : goal.returns-clause-consults
returns-clause-consults g c =
    elim c.match-question.branch [
      | in-Brokers+in_ok-brokers-in-Brokers w ↦ subst (λ l. Consults (g.L.Link.stand c.args.link.now) (g.L.Link.stand l)) (sym w.link-is) (consults_once (g.L.Link.stand c.args.link.now) (g.L.Link.stand w.brokers.new.self) w.brokers.result w.brokers.ensures.goes)
      | in-Topics+in_ok-metadata-in-Topics w ↦ subst (λ l. Consults (g.L.Link.stand c.args.link.now) (g.L.Link.stand l)) (sym w.link-is) (consults_once (g.L.Link.stand c.args.link.now) (g.L.Link.stand w.metadata.new.self) w.metadata.result w.metadata.ensures.goes)
      | in-Topic+in_ok-topic_info-in-Topic w ↦ subst (λ l. Consults (g.L.Link.stand c.args.link.now) (g.L.Link.stand l)) (sym w.link-is) (w.topic_info.ensures.consults)
      | in-Partitions+in_ok-topic_info-in-Partitions w ↦ subst (λ l. Consults (g.L.Link.stand c.args.link.now) (g.L.Link.stand l)) (sym w.link-is) (w.topic_info-in-Partitions.ensures.consults)
      | in-Partition+in_ok-part_info-in-Partition w ↦ subst (λ l. Consults (g.L.Link.stand c.args.link.now) (g.L.Link.stand l)) (sym w.link-is) (w.part_info.ensures.consults)
      | in-EndOffsets+in_ok-start-in-EndOffsets w ↦ subst (λ l. Consults (g.L.Link.stand c.args.link.now) (g.L.Link.stand l)) (sym w.link-is) (w.edges.ensures.consults)
    ]

pub returns-clause-answered : goal.returns-clause-answered
returns-clause-answered g c = λ tells log.
    elim c.match-question.branch [
      | in-Brokers+in_ok-brokers-in-Brokers w ↦ brokers_answered c.args.question.now c.match-question.found (g.L.Link.stand c.args.link.now).log (g.L.Link.stand c.match-question.link).log w.in_ok-brokers-in-Brokers.field-0 w.in-Brokers.is w.found-is w.in_ok-brokers-in-Brokers.ensures.rise
      | in-Topics+in_ok-metadata-in-Topics w ↦ topics_answered c.args.question.now c.match-question.found (g.L.Link.stand c.args.link.now).log (g.L.Link.stand w.metadata.new.self).log (g.L.Link.stand c.match-question.link).log w.in_ok-metadata-in-Topics.field-0 w.in-Topics.is w.found-is (w.metadata.ensures.goes.goes.is_log tells log) (w.metadata.ensures.goes.goes.keeps tells) (w.in_ok-metadata-in-Topics.ensures.known tells)
      | in-Topic+in_ok-topic_info-in-Topic w ↦ topic_answered c.args.question.now c.match-question.found (g.L.Link.stand c.args.link.now).log (g.L.Link.stand c.match-question.link).log w.in-Topic.topic w.as_str.result.now w.in_ok-topic_info-in-Topic.field-0 w.in-Topic.is w.found-is w.as_str.ensures (w.in_ok-topic_info-in-Topic.ensures.found tells log)
      | in-Partitions+in_ok-topic_info-in-Partitions w ↦ parts_answered c.args.question.now c.match-question.found (g.L.Link.stand c.args.link.now).log (g.L.Link.stand c.match-question.link).log w.in-Partitions.topic w.as_str-in-Partitions.result.now w.in_ok-topic_info-in-Partitions.field-0 w.in-Partitions.is w.found-is w.as_str-in-Partitions.ensures (w.in_ok-topic_info-in-Partitions.ensures.found tells log)
      | in-Partition+in_ok-part_info-in-Partition w ↦ part_answered c.args.question.now c.match-question.found (g.L.Link.stand c.args.link.now).log (g.L.Link.stand c.match-question.link).log (at_of w.in-Partition.part) w.in_ok-part_info-in-Partition.field-0 (ap question_of w.in-Partition.is) w.found-is (w.in_ok-part_info-in-Partition.ensures.found tells log)
      | in-EndOffsets+in_ok-start-in-EndOffsets w ↦ edges_answered c.args.question.now c.match-question.found (g.L.Link.stand c.args.link.now).log (g.L.Link.stand c.match-question.link).log (at_of w.in-EndOffsets.part) w.in_ok-start-in-EndOffsets.start w.in_ok-start-in-EndOffsets.end (ap question_of w.in-EndOffsets.is) w.found-is (subst (λ l. FindsEdges (g.L.Link.stand c.args.link.now).log (g.L.Link.stand l).log (at_of w.in-EndOffsets.part) (Ok (w.in_ok-start-in-EndOffsets.start, w.in_ok-start-in-EndOffsets.end))) (sym w.link-is) (w.in_ok-start-in-EndOffsets.ensures.found tells log))
    ]
