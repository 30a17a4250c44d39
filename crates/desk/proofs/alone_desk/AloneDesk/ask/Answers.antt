use Rattle.desk.specs.Step.{no_expiry}
use Rattle.desk.specs.Runs.{stood}
use Rattle.std.proofs.Common.{◌∙◌, ap, sym, refl, cond, Bool}
use Rattle.std.specs.Prelude.{option_map, is_none}
use Rattle.gate_io.specs.Clocks.{Hand, after_read, after_pause}
use Rattle.model.specs.state.Entry.Call.{Ask}
use Rattle.rest_calls.specs.Questions.{question_of}
use Rattle.rest_calls.specs.Responses.{response_in}
use Rattle.desk.specs.Shelf.{world_in}
use Rattle.desk.proofs.Turning.{turned_of, ask_looks}
use Rattle.desk.proofs.Looking.{looked_none, looked_done}
use Rattle.desk.proofs.alone_desk.AloneDesk.ask.Goals as goal

pub returns-in-Some-clause-answered : goal.returns-in-Some-clause-answered
returns-in-Some-clause-answered g c = λ told log.
    let old = c.args.self.now in
    let new = c.ask-reply.new.self in
    let steps = c.ask-reply.ensures in
    let turned = turned_of (Ask (question_of c.args.question.now)) 0 old.shard.advertise c.now_ms-now.result 0 (g.L.Link.stand old.shard.link) (g.L.Link.stand new.link) (g.C.Clock.tells c.args.clock.now) (world_in old.shard.instances old.shard.last) (world_in new.instances new.last) (g.C.Clock.hand c.args.clock.now) (g.C.Clock.hand c.now_ms-now.new.self)
    c.ask-reply.result c.ask-reply.result.reply steps.steps steps.entry.caller_is steps.entry.moment_is steps.entry.call_is steps.entry.round_is
    (λ ticks. c.now_ms-now.ensures.moment ticks ∙ ap (λ (h : Hand). h.now) (c.now_ms-now.ensures.hand ticks))
    (λ ticks. c.now_ms-now.ensures.hand ticks ∙ ap (λ (b : Bool). cond b (after_pause 10 (after_read (g.C.Clock.hand c.args.clock.now))) (after_read (g.C.Clock.hand c.args.clock.now))) (sym (ap is_none c.in-Some.is)))
    refl (λ x asked none step. ask_looks (question_of c.args.question.now) (world_in old.shard.instances old.shard.last) (g.L.Link.stand old.shard.link).log x (g.L.Link.stand new.link).log (world_in new.instances new.last) asked none step) told log in
    looked_done no_expiry 0 old.shard.advertise (g.L.Link.stand old.shard.link).plain (g.L.Link.stand old.shard.link).plain (g.C.Clock.tells c.args.clock.now) (g.C.Clock.tells c.args.clock.now) (Ask (question_of c.args.question.now))
    (stood (world_in old.shard.instances old.shard.last) (g.L.Link.stand old.shard.link) (g.C.Clock.hand c.args.clock.now))
    (stood (world_in old.shard.instances old.shard.last) (g.L.Link.stand old.shard.link) (g.C.Clock.hand c.args.clock.now))
    (stood (world_in new.instances new.last) (g.L.Link.stand new.link) (g.C.Clock.hand c.now_ms-now.new.self))
    0 (option_map response_in c.ask-reply.result.reply) (response_in c.in-Some.reply) (λ p. p) (λ t. t)
    (looked_none no_expiry 0 (g.L.Link.stand old.shard.link).plain (g.C.Clock.tells c.args.clock.now) (Ask (question_of c.args.question.now)) (stood (world_in old.shard.instances old.shard.last) (g.L.Link.stand old.shard.link) (g.C.Clock.hand c.args.clock.now)))
    turned (ap (option_map response_in) c.in-Some.is)
