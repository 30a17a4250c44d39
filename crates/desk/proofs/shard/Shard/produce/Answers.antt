use Rattle.std.proofs.Common.{refl, ap, Some}
use Rattle.model.specs.state.Log.{IsLog}
use Rattle.rest_calls.specs.Views.{batch_of, givens_of}
use Rattle.desk.proofs.Producing.{produce_step, answer_of}
use Rattle.desk.proofs.shard.Shard.produce.Goals as goal

pub returns-clause-steps : goal.returns-clause-steps
returns-clause-steps g c =
    let old = c.args.self.now in
    let a = g.L.Link.stand old.link in
    let b = g.L.Link.stand c.produce-answer.new.link in
    let done = c.produce-answer.ensures in
    produce_step old.advertise c.args.caller c.args.now c.args.topic.now (batch_of c.args.batch) a b old.instances old.last c.max-moment.result c.max-moment.result
    (record { caller = c.args.caller; moment = c.max-moment.result; events = c.new.result; call = Some c.args.asked; round = Some 0; table = c.no_table.result; reply = Some c.reply_to-reply.result }) c.reply_to-reply.result done.goes done.commits (a.plain × (a.tells × IsLog a.log)) (λ is_plain told log. (is_plain, (told, log)))
    (answer_of (a.tells × IsLog a.log) a.log b.log c.args.topic.now (givens_of c.args.batch) a.counts b.counts (a.plain × (a.tells × IsLog a.log)) c.produce-answer.result c.reply_to-reply.result c.reply_to-reply.ensures done.counts
    (λ w. done.ends w.0 w.1) (λ w. done.good w.0 w.1.0 w.1.1))
    old.instances.sound refl refl c.new.ensures (ap Some c.requires.whose) refl refl c.max-moment.ensures c.max-moment.type_inv refl
