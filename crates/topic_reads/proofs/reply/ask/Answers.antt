use Rattle.topic_reads.proofs.Asking.{asks}
use Rattle.topic_reads.proofs.reply.ask.Goals as goal

pub returns-clause-asks : goal.returns-clause-asks
returns-clause-asks g c =
    let found = c.find-found.ensures in
    asks c.args.question.now (g.L.Link.stand c.args.link.now) (g.L.Link.stand c.find-found.new.link) c.find-found.result c.found_reply.result c.found_reply.ensures found.consults found.fits found.answered found.heard found.cause found.good
