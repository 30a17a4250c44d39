use Rattle.std.proofs.Common.{refl, ap, Some}
use Rattle.rest_calls.specs.declared.call.Call.{Call as CodeCall}
use Rattle.rest_calls.specs.Views.{asked_of}
use Rattle.desk.proofs.Steps.{step_of}
use Rattle.desk.proofs.shard.Shard.step.Goals as goal

pub returns-clause-steps : goal.returns-clause-steps
returns-clause-steps g c =
    let old = c.args.self.now in
    let new = c.dispatch-outcome.new.self in
    let whose = c.requires.whose in
    step_of old.advertise c.args.caller c.args.now c.args.round (asked_of c.args.call.now) whose.0 whose.1 (g.L.Link.stand old.link) (g.L.Link.stand new.link) old.instances new.instances old.last c.max-moment.result new.last
    (record { caller = c.args.caller; moment = c.max-moment.result; events = c.dispatch-outcome.result.events; call = Some c.of.result; round = Some c.args.round; table = c.no_table.result; reply = c.dispatch-outcome.result.reply })
    whose.2 (c.dispatch-outcome.ensures.calls whose.0 whose.1 whose.2) (c.dispatch-outcome.ensures.others whose.0 whose.1 whose.2) new.instances.sound c.dispatch-outcome.ensures.consults.goes refl refl (ap (λ (x : CodeCall). Some (asked_of x)) c.of.ensures) refl c.max-moment.ensures c.max-moment.type_inv c.dispatch-outcome.ensures.setup.last
