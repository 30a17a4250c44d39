use Rattle.std.proofs.Common.{refl, ap, Some}
use Rattle.rest_calls.specs.Questions.{question_of}
use Rattle.desk.proofs.Asking.{ask_step}
use Rattle.desk.proofs.shard.Shard.ask.Goals as goal

pub returns-clause-steps : goal.returns-clause-steps
returns-clause-steps g c =
    let old = c.args.self.now in
    let a = g.L.Link.stand old.link in
    let b = g.L.Link.stand c.ask-reply.new.link in
    let done = c.ask-reply.ensures in
    ask_step old.advertise c.args.caller c.args.now (question_of c.args.question.now) a b old.instances old.last c.max-moment.result c.max-moment.result
    (record { caller = c.args.caller; moment = c.max-moment.result; events = c.new.result; call = Some c.args.asked; round = Some 0; table = c.no_table.result; reply = Some c.ask-reply.result }) c.ask-reply.result
    done.consults done.asks old.instances.sound refl refl c.new.ensures (ap Some c.requires.whose) refl refl c.max-moment.ensures c.max-moment.type_inv refl
