use Rattle.std.proofs.Common.{List, ap, map, refl, subst}
use Rattle.std.specs.Prelude.{option_map}
use Rattle.model.specs.state.World.{Key}
use Rattle.broker_link.proofs.Going.{goes_nowhere}
use Rattle.broker_link.specs.Places.{place_of}
use Rattle.broker_link.specs.declared.place.Place.{Place as CodePlace}
use Rattle.consumer_state.specs.Positions.{SeeksSo}
use Rattle.consumer_state.specs.Views.{consumer_of}
use Rattle.rest_calls.specs.Responses.{response_in}
use Rattle.instance.specs.Views.{Live, event_of}
use Rattle.instance.proofs.Handing.{no_look}
use Rattle.instance.proofs.Telling.{asks_nothing, seek_seen, told_seen}
use Rattle.instance.proofs.Wanting.{never_by_topics, same}
use Rattle.instance.proofs.instance.Instance.act.Goals as goal

pub returns-in-Seek-clause-acts : goal.returns-in-Seek-clause-acts
returns-in-Seek-clause-acts g c = λ advertise act is.
    let key : Key = record { group = c.self.inside.group; instance = c.self.inside.name } in
    let link = g.L.Link.stand c.args.link.now in
    seek_seen advertise c.args.call.now c.self.inside.consumer c.seek.new.consumer key c.args.self.now c.self.view_is c.args.now c.args.round act is c.in-Seek.group c.in-Seek.instance c.in-Seek.places c.in-Seek.is link.tells link.plain
    link.counts link.log c.seek.result _ _ (ap (map event_of) c.of_reply-in-Seek.ensures.events) (ap (option_map response_in) c.of_reply-in-Seek.ensures.reply)
    (subst (λ (l : List CodePlace). SeeksSo c.args.now (map place_of l) (consumer_of c.self.inside.consumer) c.seek.result (consumer_of c.seek.new.consumer)) c.as_slice-in-Seek.ensures c.seek.ensures.seeks)

pub returns-in_default : goal.returns-in_default
returns-in_default g c =
    let key : Key = record { group = c.self.inside.group; instance = c.self.inside.name } in
    let a = (g.L.Link.stand c.args.link.now).log in
    let sound = c.self.invariant.sound in
    let asks = asks_nothing c.args.call.now c.args.self.now.key c.requires.whose.0 c.requires.whose.1 c.in_default.not-Assign c.in_default.not-Seek c.in_default.not-SeekEdge c.in_default.not-Records in
    record {
      acts = λ advertise act is.
          told_seen advertise c.args.call.now c.self.inside.consumer key c.args.self.now c.self.view_is c.args.now c.args.round act is (g.L.Link.stand c.args.link.now).tells (g.L.Link.stand c.args.link.now).plain (g.L.Link.stand c.args.link.now).counts a
          c.told.result _ _ (ap (map event_of) c.of_reply-in_default.ensures.events) (ap (option_map response_in) c.of_reply-in_default.ensures.reply) asks c.told.ensures.says;
      handed = λ formats timeout bound is. absurd (no_look c.args.call.now c.args.self.now.key formats timeout bound is asks);
      key = ap (λ (l : Live). l.key) c.self.view_is;
      unsubscribed = never_by_topics c.self.inside.consumer key c.args.self.now c.self.view_is;
      waits = λ none. absurd (cc (none, c.of_reply-in_default.ensures.reply));
      looks = λ none. absurd (cc (none, c.of_reply-in_default.ensures.reply));
      sound = record { order = sound.order; low = sound.low; names = sound.names };
      consults = record { goes = goes_nowhere (g.L.Link.stand c.args.link.now); commits = λ t. same a; asked = refl };
    }
