use Rattle.std.proofs.Common.{◌≡◌, ap, sym, subst, ◌∙◌, refl, List, map, inl, inr, [], Vec, Global}
use Rattle.std.specs.Prelude.{◌≢◌}
use Rattle.model.specs.state.Log.{IsLog, Log, TopicPart}
use Rattle.model.specs.step.Walk.{Place}
use Rattle.model.specs.state.World.{Key, Consumer}
use Rattle.model.specs.state.World.Mode.{ByTopics}
use Rattle.model.specs.step.Fixed.{Fixes}
use Rattle.model.specs.state.Entry.Reply.{Done, Want}
use Rattle.broker_link.specs.Causes.{Counts}
use Rattle.broker_link.specs.Fetching.{at_of}
use Rattle.rest_calls.specs.Responses.{response_in}
use Rattle.rest_calls.specs.Views.{key_in}
use Rattle.rest_codes.specs.declared.response.Reply.TheVariants as reply
use Rattle.consumer_state.specs.LinkCalls.{refusal_of}
use Rattle.broker_link.specs.Places.{at_in, place_of}
use Rattle.consumer_state.specs.Views.{consumer_of}
use Rattle.broker_link.specs.declared.place.Place.{Place as CodePlace}
use Rattle.consumer_state.proofs.Assigning.{assign_acts, ends_assigned, ends_cleared, ends_failed, ends_wanting, none_listed, none_there, not_by_topics, set_there, some_listed, still_there}
use Rattle.consumer_state.proofs.Fixing.{ats_are}
use Rattle.broker_link.proofs.CountedLemmas.{counted_done}
use Rattle.consumer_state.proofs.Linking.{counted_failed, counts_stay, goes_nowhere}
use Rattle.consumer_state.proofs.assign.assign_parts.Goals as goal

pub returns-then-is_empty-clause-acts : goal.returns-then-is_empty-clause-acts
returns-then-is_empty-clause-acts g c = λ advertise instance round.
    let key : Key = key_in c.args.group.now instance in
    let ats : List TopicPart = map at_of c.args.parts.now in
    let old : Consumer = consumer_of c.args.consumer.now in
    let a : Log = (g.L.Link.stand c.args.link.now).log in
    let counts : Counts = (g.L.Link.stand c.args.link.now).counts in
    let places : List Place = map place_of c.new.result.items in
    let none : ats ≡ [] = none_listed c.args.parts.now (sym c.is_empty.ensures ∙ c.if-is_empty.true) in
    let cleared : places ≡ [] = ap (λ (l : List CodePlace). map place_of l) c.new.ensures.items in
    let mode : old.mode ≢ ByTopics = not_by_topics old.assignment in
    assign_acts advertise key c.args.now round ats _ _ counts counts old a Done reply.Empty a _ (goes_nowhere (g.L.Link.stand c.args.link.now)).keeps (λ advertise forms call. refl) (counted_done counts counts Done (counts_stay counts) refl refl) mode
    (λ tells is. ends_cleared key c.args.now ats old a places none cleared mode) (λ tells is all. none_there a places cleared) (λ plain tells is. tt)

pub returns-in-Ok-clause-acts : goal.returns-in-Ok-clause-acts
returns-in-Ok-clause-acts g c = λ advertise instance round.
    let key : Key = key_in c.args.group.now instance in
    let ats : List TopicPart = map at_of c.args.parts.now in
    let old : Consumer = consumer_of c.args.consumer.now in
    let a : Log = (g.L.Link.stand c.args.link.now).log in
    let b : Log = (g.L.Link.stand c.places_for.new.link).log in
    let before : Counts = (g.L.Link.stand c.args.link.now).counts in
    let after : Counts = (g.L.Link.stand c.places_for.new.link).counts in
    let items : List CodePlace = c.in-Ok.places.items in
    let places : List Place = map place_of items in
    let mode : old.mode ≢ ByTopics = not_by_topics old.assignment in
    let goes = c.places_for.ensures.goes in
    let fixes : (g.L.Link.stand c.args.link.now).tells → IsLog a → Fixes (a.committed key.group) old.settings.reset old.assignment a (map (λ (place : Place). place.at) places) places b = λ tells is.
    subst (λ (l : List TopicPart). Fixes (a.committed key.group) old.settings.reset old.assignment a l places b) (sym (ats_are items))
    (subst (λ (l : List CodePlace). Fixes (a.committed key.group) old.settings.reset (map place_of l) a (map at_in items) places b) c.as_slice-kept.ensures.value (c.in-Ok.ensures.fixes tells is)) in
    assign_acts advertise key c.args.now round ats _ _ before after old a Done reply.Empty b _ goes.keeps (λ advertise forms call. refl) (counted_done before after Done c.places_for.ensures.caused.kept refl refl) mode
    (λ tells is. ends_assigned key c.args.now ats old a b places mode (c.in-Ok.ensures.code tells is) c.in-Ok.ensures.set (fixes tells is))
    (λ tells is all. set_there a b ats places (goes.keeps tells).0 (c.in-Ok.ensures.code tells is) c.in-Ok.ensures.set) (λ plain tells is. tt)

pub returns-in-Err-clause-acts : goal.returns-in-Err-clause-acts
returns-in-Err-clause-acts g c = λ advertise instance round.
    let key : Key = key_in c.args.group.now instance in
    let ats : List TopicPart = map at_of c.args.parts.now in
    let old : Consumer = consumer_of c.args.consumer.now in
    let a : Log = (g.L.Link.stand c.args.link.now).log in
    let b : Log = (g.L.Link.stand c.places_for.new.link).log in
    let before : Counts = (g.L.Link.stand c.args.link.now).counts in
    let after : Counts = (g.L.Link.stand c.places_for.new.link).counts in
    let mode : old.mode ≢ ByTopics = not_by_topics old.assignment in
    let goes = c.places_for.ensures.goes in
    let some : ats ≢ [] = some_listed c.args.parts.now (sym c.is_empty.ensures ∙ c.if-is_empty.false) in
    elim c.refusal.ensures.says [
      | inl says ↦ assign_acts advertise key c.args.now round ats _ _ before after old a (refusal_of c.in-Err.no) c.refusal.result b _ goes.keeps says (counted_failed before after c.in-Err.no c.in-Err.ensures.caused.kept c.in-Err.ensures.caused.cause) mode
          (λ tells is. ends_failed key c.args.now ats old a b before after (Vec CodePlace Global) c.in-Err.no some c.in-Err.ensures.caused.cause (c.in-Err.ensures.code tells is))
          (λ tells is all. still_there a b c.args.now old (goes.keeps tells).0 all) (λ plain tells is. c.in-Err.ensures.good plain tells is)
      | inr want ↦ assign_acts advertise key c.args.now round ats _ _ before after old a Want c.refusal.result b _ goes.keeps (λ advertise forms call. ap response_in want) (counted_done before after Want c.in-Err.ensures.caused.kept refl refl) mode
          (λ tells is. ends_wanting key c.args.now ats old a b) (λ tells is all. still_there a b c.args.now old (goes.keeps tells).0 all) (λ plain tells is. tt)
    ]
