use Rattle.std.proofs.Common.{◌≡◌, ◌∙◌, [], sym, ap, None}
use Rattle.model.specs.state.World.{Key}
use Rattle.rest_calls.specs.Views.{asked_of}
use Rattle.desk.specs.Keys.{consumer_key}
use Rattle.desk.specs.Shelf.{consumer_in, is_create_call}
use Rattle.desk.proofs.Creating.{missing_calls, eventless_calls}
use Rattle.desk.proofs.shard.Shard.call_missing.Goals as goal

pub returns-clause-calls : goal.returns-clause-calls
returns-clause-calls g c = λ key act round is.
    let old = c.args.self.now in
    let a = g.L.Link.stand old.link in
    let gone : consumer_in old.instances key ≡ None = ap (λ (k : Key). consumer_in old.instances k) (sym (ap consumer_key is)) ∙ c.requires.none in
    eventless_calls old.advertise key c.args.moment round act a.tells a.plain a.counts a.counts None a.log c.of_reply-2.result.events c.of_reply-2.result.reply c.refused-reply.result a.log (consumer_in old.instances key)
    c.of_reply-2.ensures.events c.of_reply-2.ensures.reply
    (missing_calls old.advertise key c.args.moment round act a.tells a.plain a.counts a.log (consumer_in old.instances key) c.refused-reply.result gone
    (sym (ap is_create_call is) ∙ (sym c.is_create.ensures ∙ c.if-is_create.false)) c.refused-reply.ensures.says)
