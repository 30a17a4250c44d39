use Rattle.std.proofs.Common.{◌∙◌, ℕ, List, subst, ap, refl, arith}
use Rattle.std.specs.Prelude.{option_map}
use Rattle.rest_calls.specs.Views.{asked_of}
use Rattle.rest_calls.specs.Responses.{response_in}
use Rattle.desk.specs.Shelf.{world_in}
use Rattle.desk.specs.Step.{no_expiry}
use Rattle.desk.specs.Runs.{stood, IsAnswered}
use Rattle.broker_link.proofs.Going.{goes_nowhere, goes_on}
use Rattle.desk.proofs.Looking.{looked_none, looked_more, looked_done}
use Rattle.desk.proofs.alone_desk.AloneDesk.look_until_answered.Goals as goal

pub loop-reply-init : goal.loop-reply-init
loop-reply-init g c = record {
  looked = λ told log. looked_none no_expiry 0 (g.L.Link.stand c.args.self.now.shard.link).plain (g.C.Clock.tells c.args.clock.now) (asked_of c.args.call.now)
      (stood (world_in c.args.self.now.shard.instances c.args.self.now.shard.last) (g.L.Link.stand c.args.self.now.shard.link) (g.C.Clock.hand c.args.clock.now));
  few = omega arith;
  names_given = refl;
  advertise = refl;
  goes = goes_nowhere (g.L.Link.stand c.args.self.now.shard.link);
  ticking = λ t. t;
}

pub returns-in-Some-clause-answered : goal.returns-in-Some-clause-answered
returns-in-Some-clause-answered g c = λ told log.
    let before = c.loop-reply.invariant in
    let turned = c.one_look.ensures.turned (before.goes.telling told) (before.goes.is_log told log) in
    subst (λ (a : List ℕ). IsAnswered no_expiry 0 a (g.L.Link.stand c.args.self.now.shard.link).plain (g.C.Clock.tells c.args.clock.now) (asked_of c.args.call.now)
    (stood (world_in c.args.self.now.shard.instances c.args.self.now.shard.last) (g.L.Link.stand c.args.self.now.shard.link) (g.C.Clock.hand c.args.clock.now)) (response_in c.in-Some.reply) (stood (world_in c.one_look.new.self.shard.instances c.one_look.new.self.shard.last) (g.L.Link.stand c.one_look.new.self.shard.link) (g.C.Clock.hand c.one_look.new.clock))) before.advertise
    (looked_done no_expiry 0 c.loop-reply.self.shard.advertise (g.L.Link.stand c.args.self.now.shard.link).plain (g.L.Link.stand c.loop-reply.self.shard.link).plain (g.C.Clock.tells c.args.clock.now) (g.C.Clock.tells c.loop-reply.clock) (asked_of c.args.call.now)
    (stood (world_in c.args.self.now.shard.instances c.args.self.now.shard.last) (g.L.Link.stand c.args.self.now.shard.link) (g.C.Clock.hand c.args.clock.now))
    (stood (world_in c.loop-reply.self.shard.instances c.loop-reply.self.shard.last) (g.L.Link.stand c.loop-reply.self.shard.link) (g.C.Clock.hand c.loop-reply.clock))
    (stood (world_in c.one_look.new.self.shard.instances c.one_look.new.self.shard.last) (g.L.Link.stand c.one_look.new.self.shard.link) (g.C.Clock.hand c.one_look.new.clock))
    c.loop-reply.round (option_map response_in c.one_look.result) (response_in c.in-Some.reply) before.goes.plainly before.ticking (before.looked told log) turned (ap (option_map response_in) c.in-Some.is))

pub loop-reply-preserved : goal.loop-reply-preserved
loop-reply-preserved g c =
    let before = c.loop-reply.invariant in
    let said = c.one_look.ensures in
    let waits = said.waits c.in_default.is in
    record {
      looked = λ told log. looked_more no_expiry 0 c.loop-reply.self.shard.advertise (g.L.Link.stand c.args.self.now.shard.link).plain (g.L.Link.stand c.loop-reply.self.shard.link).plain (g.C.Clock.tells c.args.clock.now) (g.C.Clock.tells c.loop-reply.clock) (asked_of c.args.call.now)
          (stood (world_in c.args.self.now.shard.instances c.args.self.now.shard.last) (g.L.Link.stand c.args.self.now.shard.link) (g.C.Clock.hand c.args.clock.now))
          (stood (world_in c.loop-reply.self.shard.instances c.loop-reply.self.shard.last) (g.L.Link.stand c.loop-reply.self.shard.link) (g.C.Clock.hand c.loop-reply.clock))
          (stood (world_in c.one_look.new.self.shard.instances c.one_look.new.self.shard.last) (g.L.Link.stand c.one_look.new.self.shard.link) (g.C.Clock.hand c.one_look.new.clock))
          c.loop-reply.round (option_map response_in c.one_look.result) before.goes.plainly before.ticking (before.looked told log)
          (said.turned (before.goes.telling told) (before.goes.is_log told log)) (ap (option_map response_in) c.in_default.is);
      few = omega (arith, waits);
      names_given = said.names_given ∙ before.names_given;
      advertise = said.advertise ∙ before.advertise;
      goes = goes_on (g.L.Link.stand c.args.self.now.shard.link) (g.L.Link.stand c.loop-reply.self.shard.link) (g.L.Link.stand c.one_look.new.self.shard.link) before.goes said.goes;
      ticking = λ t. said.ticking (before.ticking t);
    }
