use Rattle.std.proofs.Common.{arith, length, ◌≡◌, ◌∙◌, ap, sym, subst, refl, map, List, true, false}
use Rattle.std.specs.List.{list_all}
use Rattle.std.specs.Vec.{with_items}
use Rattle.std.proofs.lemmas.Grind.{common_steps}
use Rattle.std.proofs.lemmas.List.{with_items_is}
use Rattle.model.specs.step.Walk.{Place}
use Rattle.model.specs.state.World.{Consumer, IsLow, with_positions}
use Rattle.broker_link.specs.Places.{at_in, place_of}
use Rattle.broker_link.specs.declared.place.Place.{Place as CodePlace}
use Rattle.consumer_state.specs.Positions.{are_assigned, is_assigned}
use Rattle.consumer_state.specs.Views.{consumer_of}
use Rattle.consumer_state.proofs.PositionLemmas.{places_assigned}
use Rattle.consumer_state.proofs.SeekLemmas.{now_at_is, seek_done, seek_refused, sound_set}
use Rattle.consumer_state.proofs.seeking.seek.Goals as goal

pub returns-then-not-have_places-clause-seeks : goal.returns-then-not-have_places-clause-seeks
returns-then-not-have_places-clause-seeks c =
    let old : Consumer = consumer_of c.args.consumer.now in
    let e : are_assigned old.assignment (map (λ (place : Place). place.at) (map place_of c.args.places.now)) ≡ false =
    places_assigned old.assignment c.args.places.now
    ∙ (ap (λ (l : List CodePlace). list_all (λ (new : CodePlace). is_assigned (map place_of l) (at_in new)) c.args.places.now) (sym c.as_slice.ensures.value) ∙ (sym c.have_places.ensures ∙ c.if-not-have_places.true)) in
    seek_refused c.args.now (map place_of c.args.places.now) old c.refused.result e c.refused.ensures.says

pub returns-clause-sound : goal.returns-clause-sound
returns-clause-sound c =
    let ws : length c.set_all.new.places ≡ c.args.consumer.now.assignment.len = grind (arith, common_steps) in
    let items = with_items_is c.args.consumer.now.assignment c.set_all.new.places ws in
    let set : map place_of (with_items c.args.consumer.now.assignment c.set_all.new.places).items ≡ with_positions (map place_of c.args.places.now) (map place_of c.args.consumer.now.assignment.items) =
    ap (map place_of) items ∙ (c.set_all.ensures.places ∙ ap (λ (l : List CodePlace). with_positions (map place_of c.args.places.now) (map place_of l)) c.deref_mut.ensures.value) in
    let low : IsLow (map place_of (with_items c.args.consumer.now.assignment c.set_all.new.places).items) =
    subst (λ (ps : List CodePlace). IsLow (map place_of ps)) (sym items) (c.set_all.ensures.low (subst (λ (l : List CodePlace). IsLow (map place_of l)) (sym c.deref_mut.ensures.value) (let s = c.requires.sound in s.low))) in
    sound_set c.args.consumer.now _ (map place_of c.args.places.now) c.requires set low refl

pub returns-clause-seeks : goal.returns-clause-seeks
returns-clause-seeks c =
    let old : Consumer = consumer_of c.args.consumer.now in
    let news : List Place = map place_of c.args.places.now in
    let e : are_assigned old.assignment (map (λ (place : Place). place.at) news) ≡ true =
    places_assigned old.assignment c.args.places.now
    ∙ (ap (λ (l : List CodePlace). list_all (λ (new : CodePlace). is_assigned (map place_of l) (at_in new)) c.args.places.now) (sym c.as_slice.ensures.value) ∙ (sym c.have_places.ensures ∙ c.if-not-have_places.false)) in
    let ws : length c.set_all.new.places ≡ c.args.consumer.now.assignment.len = grind (arith, common_steps) in
    let items = with_items_is c.args.consumer.now.assignment c.set_all.new.places ws in
    let set : map place_of (with_items c.args.consumer.now.assignment c.set_all.new.places).items ≡ with_positions news old.assignment = ap (map place_of) items ∙ (c.set_all.ensures.places ∙ ap (λ (l : List CodePlace). with_positions news (map place_of l)) c.deref_mut.ensures.value) in
    seek_done c.args.now news old _ e (now_at_is old news (map place_of (with_items c.args.consumer.now.assignment c.set_all.new.places).items) c.args.now refl refl set)
