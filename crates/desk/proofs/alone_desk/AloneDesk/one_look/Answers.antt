use Rattle.std.proofs.Common.{◌∙◌, ◌≡◌, refl, ap, Bool, true, false, cond, Option, Some, None}
use Rattle.gate_io.specs.Clocks.{Hand, after_pause}
use Rattle.std.specs.Prelude.{is_none, is_some, not}
use Rattle.rest_calls.specs.Views.{asked_of}
use Rattle.desk.specs.Shelf.{world_in}
use Rattle.desk.proofs.Turning.{turned_of, step_looks}
use Rattle.desk.proofs.alone_desk.AloneDesk.one_look.Goals as goal

not_not : {A : Type 0} (b : Bool) (o : Option A) → is_some o ≡ not b → b ≡ is_none o
not_not true None is = refl
not_not true (Some x) is = absurd (cc is)
not_not false None is = absurd (cc is)
not_not false (Some x) is = refl

pub returns-clause-turned : goal.returns-clause-turned
returns-clause-turned g c = λ told log.
    let old = c.args.self.now in
    let new = c.step-entry.new.self in
    let whose = c.requires.whose in
    let steps = c.step-entry.ensures in
    let none_is : c.is_none.result ≡ is_none c.step-entry.result.reply = not_not c.is_none.result c.step-entry.result.reply c.is_none.ensures in
    turned_of (asked_of c.args.call.now) 0 old.shard.advertise c.now_ms-now.result c.args.round (g.L.Link.stand old.shard.link) (g.L.Link.stand new.link) (g.C.Clock.tells c.args.clock.now) (world_in old.shard.instances old.shard.last) (world_in new.instances new.last) (g.C.Clock.hand c.args.clock.now) (g.C.Clock.hand c.pause_if_waiting.new.clock)
    c.step-entry.result c.step-entry.result.reply steps.steps steps.entry.caller_is steps.entry.moment_is steps.entry.call_is steps.entry.round_is
    (λ ticks. c.now_ms-now.ensures.moment ticks ∙ ap (λ (h : Hand). h.now) (c.now_ms-now.ensures.hand ticks))
    (λ ticks. c.pause_if_waiting.ensures.hand (c.now_ms-now.ensures.telling ticks) ∙ (ap (λ (b : Bool). cond b (after_pause 10 (g.C.Clock.hand c.now_ms-now.new.self)) (g.C.Clock.hand c.now_ms-now.new.self)) none_is
    ∙ ap (λ (h : Hand). cond (is_none c.step-entry.result.reply) (after_pause 10 h) h) (c.now_ms-now.ensures.hand ticks)))
    refl (λ x asked none step. step_looks c.args.call.now whose.0 whose.1 whose.2 (world_in old.shard.instances old.shard.last) (g.L.Link.stand old.shard.link).log x (g.L.Link.stand new.link).log (world_in new.instances new.last) asked none step) told log
