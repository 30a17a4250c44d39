use Rattle.std.proofs.Common.{◌≡◌, ◌∙◌, ap, sym, subst, refl, [], List, ℕ}
use Rattle.std.specs.Prelude.{⊤}
use Rattle.model.specs.state.Log.{IsLog, shape_of}
use Rattle.broker_link.specs.Made.{ArePlans, empty_log, no_counts}
use Rattle.broker_link.specs.Stored.{log_of, log_with}
use Rattle.broker_link.specs.declared.memory.MemLink.{MemLink}
use Rattle.desk.specs.Shelf.{world_in}
use Rattle.desk.specs.Step.{no_expiry}
use Rattle.proxy_cli.specs.Served.{Answering, Gateway}
use Rattle.proxy_cli.specs.Session.{first_gateway}
use Rattle.command_words.specs.Words.{advertise_of, plans_of}
use Rattle.proxy_cli.proofs.Answered.{answering_none, session_answers}
use Rattle.proxy_cli.proofs.Progress.{starved_first}
use Rattle.proxy_cli.proofs.Sessions.{serves_so}
use Rattle.proxy_cli.proofs.program.serve_command.Goals as goal

pub returns-in-Err-clause-serves : goal.returns-in-Err-clause-serves
returns-in-Err-clause-serves g c =
    let first = first_gateway c.args.command.now (g.C.Clock.hand c.args.clock.now) in (
      first,
      refl,
      λ input told.
          starved_first g.S.Source.left g.S.Source.asked c.args.src.now (Answering no_expiry 0 ⊤ (g.C.Clock.tells c.args.clock.now) (advertise_of c.args.command.now) first first) input (g.K.Sink.held c.args.sink.now)
          (answering_none no_expiry 0 ⊤ (g.C.Clock.tells c.args.clock.now) (advertise_of c.args.command.now) first) told,
    )

pub returns-in-Err-from_str-clause-serves : goal.returns-in-Err-from_str-clause-serves
returns-in-Err-from_str-clause-serves g c =
    let first = first_gateway c.args.command.now (g.C.Clock.hand c.args.clock.now) in (
      first,
      refl,
      λ input told.
          starved_first g.S.Source.left g.S.Source.asked c.args.src.now (Answering no_expiry 0 ⊤ (g.C.Clock.tells c.args.clock.now) (advertise_of c.args.command.now) first first) input (g.K.Sink.held c.args.sink.now)
          (answering_none no_expiry 0 ⊤ (g.C.Clock.tells c.args.clock.now) (advertise_of c.args.command.now) first) told,
    )

pub returns-clause-serves : goal.returns-clause-serves
returns-clause-serves g c =
    let command = c.args.command.now in
    let made = c.new-desk.result in
    let done = c.serve_stream.new.desk in
    let link_is : made.shard.link ≡ c.in-Ok.link = c.new-desk.ensures.link in
    let tells : ArePlans (shape_of (log_of made.shard.link.topics.list.items)) = subst (λ (l : MemLink). ArePlans (shape_of (log_of l.topics.list.items))) (sym link_is) c.in-Ok.ensures.tells in
    let is_log : IsLog (log_with made.shard.link.topics.list.items made.shard.link.others) = subst (λ (l : MemLink). IsLog (log_with l.topics.list.items l.others)) (sym link_is) c.in-Ok.ensures.is_log in
    let plain : (made.shard.link.script.fails ≡ []) × (made.shard.link.script.others ≡ []) = subst (λ (l : MemLink). (l.script.fails ≡ []) × (l.script.others ≡ [])) (sym link_is) c.in-Ok.ensures.plain in
    let log_is : log_with made.shard.link.topics.list.items made.shard.link.others ≡ empty_log (plans_of command) =
    ap (λ (l : MemLink). log_with l.topics.list.items l.others) link_is ∙ (c.in-Ok.ensures.log ∙ ap (λ (ps : List (List ℕ × ℕ)). empty_log ps) c.topics_in.ensures) in
    let counts_is : made.shard.link.tally ≡ no_counts = ap (λ (l : MemLink). l.tally) link_is ∙ c.in-Ok.ensures.counts in
    let name_is : made.shard.advertise ≡ advertise_of command = c.new-desk.ensures.advertise ∙ (c.in-Ok-from_str.ensures ∙ c.advertise_in.ensures) in
    let first : Gateway = record { state = record { world = world_in made.shard.instances made.shard.last; log = log_with made.shard.link.topics.list.items made.shard.link.others; hand = g.C.Clock.hand c.args.clock.now; counts = made.shard.link.tally }; names_given = made.names_given } in
    let end : Gateway = record { state = record { world = world_in done.shard.instances done.shard.last; log = log_with done.shard.link.topics.list.items done.shard.link.others; hand = g.C.Clock.hand c.serve_stream.new.clock; counts = done.shard.link.tally }; names_given = done.names_given } in
    let start : first ≡ first_gateway command (g.C.Clock.hand c.args.clock.now) =
    (λ i. record { state = record { world = c.new-desk.ensures.instances i; log = log_is i; hand = g.C.Clock.hand c.args.clock.now; counts = counts_is i }; names_given = c.new-desk.ensures.names_given i }) in
    let so = session_answers _ plain (g.C.Clock.tells c.args.clock.now) made.shard.advertise (advertise_of command) first (first_gateway command (g.C.Clock.hand c.args.clock.now)) end name_is start in
    (end, refl, serves_so _ _ so g.S.Source.left g.S.Source.asked c.args.src.now c.serve_stream.new.source _ _ c.serve_stream.result (c.serve_stream.ensures.serves (tells, is_log)))
