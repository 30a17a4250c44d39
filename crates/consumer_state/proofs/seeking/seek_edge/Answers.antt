use Rattle.std.proofs.Common.{arith, length, ◌≡◌, ◌∙◌, ap, sym, subst, refl, map, List, [], true, false, inl, inr}
use Rattle.std.specs.Prelude.{◌≢◌}
use Rattle.std.specs.List.{list_all}
use Rattle.std.specs.Vec.{with_items}
use Rattle.std.proofs.lemmas.Grind.{common_steps}
use Rattle.std.proofs.lemmas.List.{with_items_is}
use Rattle.model.specs.state.Log.{Log, TopicPart}
use Rattle.model.specs.step.Walk.{Place}
use Rattle.model.specs.state.World.{Consumer, Edge, IsLow, Key, with_positions}
use Rattle.model.specs.state.Entry.Reply.{Done, Refused, Want}
use Rattle.broker_link.specs.Causes.{Counts}
use Rattle.broker_link.specs.Fetching.{at_of, edge_view}
use Rattle.broker_link.specs.Places.{place_of}
use Rattle.broker_link.specs.declared.place.Place.{Place as CodePlace}
use Rattle.broker_link.proofs.CountedLemmas.{counted_done}
use Rattle.rest_calls.specs.Responses.{response_in}
use Rattle.rest_calls.specs.Views.{key_in}
use Rattle.rest_codes.specs.declared.response.Reply.TheVariants as reply
use Rattle.consumer_state.specs.LinkCalls.{refusal_of}
use Rattle.consumer_state.specs.Positions.{are_assigned, is_assigned}
use Rattle.consumer_state.specs.Views.{consumer_of}
use Rattle.consumer_state.proofs.Assigning.{none_listed, some_listed, still_there}
use Rattle.consumer_state.proofs.Linking.{counted_failed, counts_stay, goes_nowhere}
use Rattle.consumer_state.proofs.PositionLemmas.{all_assigned, are_there, parts_assigned}
use Rattle.consumer_state.proofs.SeekLemmas.{edge_acts, edge_done, edge_failed, edge_none, edge_refused, edge_wanting, now_at, now_at_is, set_there, sound_set}
use Rattle.consumer_state.proofs.seeking.seek_edge.Goals as goal

pub returns-then-not-are_assigned-clause-acts : goal.returns-then-not-are_assigned-clause-acts
returns-then-not-are_assigned-clause-acts g c = λ advertise group instance round.
    let key : Key = key_in group instance in
    let edge : Edge = edge_view c.args.edge in
    let ats : List TopicPart = map at_of c.args.parts.now in
    let old : Consumer = consumer_of c.args.consumer.now in
    let a : Log = (g.L.Link.stand c.args.link.now).log in
    let counts : Counts = (g.L.Link.stand c.args.link.now).counts in
    let keeps = (goes_nowhere (g.L.Link.stand c.args.link.now)).keeps in
    let e : are_assigned old.assignment ats ≡ false =
    parts_assigned old.assignment c.args.parts.now
    ∙ (ap (λ (l : List CodePlace). list_all (λ part. is_assigned (map place_of l) (at_of part)) c.args.parts.now) (sym c.as_slice.ensures.value) ∙ (sym c.are_assigned.ensures ∙ c.if-not-are_assigned.true)) in
    elim c.refused.ensures.says [
      | inl says ↦ edge_acts advertise key c.args.now round edge ats _ _ counts counts old a (Refused 40990) c.refused.result a _ keeps says (counted_done counts counts (Refused 40990) (counts_stay counts) refl refl)
          (λ tells is. edge_refused c.args.now edge ats old a a e) (λ tells is all. all) (λ plain tells is all. tt)
      | inr want ↦ edge_acts advertise key c.args.now round edge ats _ _ counts counts old a Want c.refused.result a _ keeps (λ advertise forms call. ap response_in want) (counted_done counts counts Want (counts_stay counts) refl refl)
          (λ tells is. edge_wanting c.args.now edge ats old a a) (λ tells is all. all) (λ plain tells is all. tt)
    ]

pub returns-then-is_empty-clause-acts : goal.returns-then-is_empty-clause-acts
returns-then-is_empty-clause-acts g c = λ advertise group instance round.
    let key : Key = key_in group instance in
    let edge : Edge = edge_view c.args.edge in
    let ats : List TopicPart = map at_of c.args.parts.now in
    let old : Consumer = consumer_of c.args.consumer.now in
    let a : Log = (g.L.Link.stand c.args.link.now).log in
    let counts : Counts = (g.L.Link.stand c.args.link.now).counts in
    edge_acts advertise key c.args.now round edge ats _ _ counts counts old a Done reply.Empty a _ (goes_nowhere (g.L.Link.stand c.args.link.now)).keeps (λ advertise forms call. refl) (counted_done counts counts Done (counts_stay counts) refl refl)
    (λ tells is. edge_none c.args.now edge ats old a (none_listed c.args.parts.now (sym c.is_empty.ensures ∙ c.if-is_empty.true))) (λ tells is all. all) (λ plain tells is all. tt)

pub returns-in-Ok-clause-sound : goal.returns-in-Ok-clause-sound
returns-in-Ok-clause-sound g c =
    let news : List Place = map place_of c.as_slice-in-Ok.result.now in
    let ws : length c.set_all.new.places ≡ c.args.consumer.now.assignment.len = grind (arith, common_steps) in
    let items = with_items_is c.args.consumer.now.assignment c.set_all.new.places ws in
    let set : map place_of (with_items c.args.consumer.now.assignment c.set_all.new.places).items ≡ with_positions news (map place_of c.args.consumer.now.assignment.items) = ap (map place_of) items ∙ (c.set_all.ensures.places ∙ ap (λ (l : List CodePlace). with_positions news (map place_of l)) c.deref_mut.ensures.value) in
    let low : IsLow (map place_of (with_items c.args.consumer.now.assignment c.set_all.new.places).items) =
    subst (λ (ps : List CodePlace). IsLow (map place_of ps)) (sym items) (c.set_all.ensures.low (subst (λ (l : List CodePlace). IsLow (map place_of l)) (sym c.deref_mut.ensures.value) (let s = c.requires.sound.sound in s.low))) in
    sound_set c.args.consumer.now _ news c.requires.sound set low refl

pub returns-in-Ok-clause-acts : goal.returns-in-Ok-clause-acts
returns-in-Ok-clause-acts g c = λ advertise group instance round.
    let key : Key = key_in group instance in
    let edge : Edge = edge_view c.args.edge in
    let ats : List TopicPart = map at_of c.args.parts.now in
    let old : Consumer = consumer_of c.args.consumer.now in
    let a : Log = (g.L.Link.stand c.args.link.now).log in
    let b : Log = (g.L.Link.stand c.edges_of.new.link).log in
    let before : Counts = (g.L.Link.stand c.args.link.now).counts in
    let after : Counts = (g.L.Link.stand c.edges_of.new.link).counts in
    let news : List Place = map place_of c.in-Ok.news.items in
    let goes = c.edges_of.ensures.goes in
    let e : are_assigned old.assignment ats ≡ true =
    parts_assigned old.assignment c.args.parts.now
    ∙ (ap (λ (l : List CodePlace). list_all (λ part. is_assigned (map place_of l) (at_of part)) c.args.parts.now) (sym c.as_slice.ensures.value) ∙ (sym c.are_assigned.ensures ∙ c.if-not-are_assigned.false)) in
    let ws : length c.set_all.new.places ≡ c.args.consumer.now.assignment.len = grind (arith, common_steps) in
    let items = with_items_is c.args.consumer.now.assignment c.set_all.new.places ws in
    let set : map place_of (with_items c.args.consumer.now.assignment c.set_all.new.places).items ≡ with_positions news old.assignment =
    ap (map place_of) items ∙ (c.set_all.ensures.places
    ∙ (ap (λ (l : List CodePlace). with_positions (map place_of l) (map place_of c.deref_mut.result.now)) c.as_slice-in-Ok.ensures.value ∙ ap (λ (l : List CodePlace). with_positions news (map place_of l)) c.deref_mut.ensures.value)) in
    edge_acts advertise key c.args.now round edge ats _ _ before after old a Done reply.Empty b _ goes.keeps (λ advertise forms call. refl) (counted_done before after Done c.edges_of.ensures.caused.kept refl refl)
    (λ tells is. edge_done c.args.now edge ats old a news b _ e (c.in-Ok.ensures.told tells is) (now_at_is old news (map place_of (with_items c.args.consumer.now.assignment c.set_all.new.places).items) c.args.now refl refl set))
    (λ tells is all. set_there a b news old (now_at old (map place_of (with_items c.args.consumer.now.assignment c.set_all.new.places).items) c.args.now) (goes.keeps tells).0 set all) (λ plain tells is all. tt)

pub returns-in-Err-clause-acts : goal.returns-in-Err-clause-acts
returns-in-Err-clause-acts g c = λ advertise group instance round.
    let key : Key = key_in group instance in
    let edge : Edge = edge_view c.args.edge in
    let ats : List TopicPart = map at_of c.args.parts.now in
    let old : Consumer = consumer_of c.args.consumer.now in
    let a : Log = (g.L.Link.stand c.args.link.now).log in
    let b : Log = (g.L.Link.stand c.edges_of.new.link).log in
    let before : Counts = (g.L.Link.stand c.args.link.now).counts in
    let after : Counts = (g.L.Link.stand c.edges_of.new.link).counts in
    let goes = c.edges_of.ensures.goes in
    let some : ats ≢ [] = some_listed c.args.parts.now (sym c.is_empty.ensures ∙ c.if-is_empty.false) in
    let e : are_assigned old.assignment ats ≡ true =
    parts_assigned old.assignment c.args.parts.now
    ∙ (ap (λ (l : List CodePlace). list_all (λ part. is_assigned (map place_of l) (at_of part)) c.args.parts.now) (sym c.as_slice.ensures.value) ∙ (sym c.are_assigned.ensures ∙ c.if-not-are_assigned.false)) in
    elim c.refusal.ensures.says [
      | inl says ↦ edge_acts advertise key c.args.now round edge ats _ _ before after old a (refusal_of c.in-Err.no) c.refusal.result b _ goes.keeps says (counted_failed before after c.in-Err.no c.in-Err.ensures.caused.kept c.in-Err.ensures.caused.cause)
          (λ tells is. edge_failed c.args.now edge ats old a b before after c.in-Err.no e some c.in-Err.ensures.caused.cause c.in-Err.ensures.failed)
          (λ tells is all. still_there a b c.args.now old (goes.keeps tells).0 all) (λ plain tells is all. c.in-Err.ensures.good plain tells (are_there a old ats all (all_assigned old ats e)))
      | inr want ↦ edge_acts advertise key c.args.now round edge ats _ _ before after old a Want c.refusal.result b _ goes.keeps (λ advertise forms call. ap response_in want) (counted_done before after Want c.in-Err.ensures.caused.kept refl refl)
          (λ tells is. edge_wanting c.args.now edge ats old a b) (λ tells is all. still_there a b c.args.now old (goes.keeps tells).0 all) (λ plain tells is all. tt)
    ]
