use Rattle.rest_calls.specs.Views.{asked_of}
use Rattle.instance.specs.Views.{events_in, said_in}
use Rattle.instance.specs.declared.event.Outcome.{Outcome}
use Rattle.desk.specs.Consumers.{AreKeyed, AreSame, AreSound, Puts, live_under}
use Rattle.desk.specs.Action.{Does}
use Rattle.desk.specs.Keys.{consumer_key}
use Rattle.desk.proofs.ConsumersLemmas.{whose_under, keyed_does, sound_does, keyed_same, sound_same, if_either}
use Rattle.desk.proofs.consumers.Consumers.act.Goals as goal

pub act_under-requires : goal.act_under-requires
act_under-requires g c = record { whose = whose_under c.args.self.now.groups (asked_of c.args.call.now) c.args.self.now.keyed c.requires.whose.0 c.requires.whose.1 c.requires.whose.2 }

pub invariant_of-self : goal.invariant_of-self
invariant_of-self g c =
    let old = c.args.self.now.groups in
    let new = c.act_under.new.groups in
    let a = g.L.Link.stand c.args.link.now in
    let b = g.L.Link.stand c.act_under.new.link in
    record {
      keyed = if_either c.act_under.result _ (AreSame old new) (AreKeyed new) c.act_under.ensures.does c.act_under.ensures.stays
          (λ o one. keyed_does old new (asked_of c.args.call.now) c.args.moment c.args.round a.tells a.plain a.counts b.counts a.log (events_in o) (said_in o) b.log c.args.self.now.keyed one) (keyed_same old new c.args.self.now.keyed);
      sound = if_either c.act_under.result _ (AreSame old new) (AreSound new) c.act_under.ensures.does c.act_under.ensures.stays
          (λ o one. sound_does old new (asked_of c.args.call.now) c.args.moment c.args.round a.tells a.plain a.counts b.counts a.log (events_in o) (said_in o) b.log c.args.self.now.sound one) (sound_same old new c.args.self.now.sound);
    }
