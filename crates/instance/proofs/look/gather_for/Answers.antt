use Rattle.std.proofs.Common.{◌≡◌, List, map, length, ap, sym, subst, arith}
use Rattle.std.proofs.lemmas.Grind.{common_steps}
use Rattle.std.proofs.lemmas.List.{with_items_is}
use Rattle.std.specs.Vec.{with_items}
use Rattle.model.specs.step.Walk.{Place}
use Rattle.model.specs.state.World.{IsInOrder, IsLow}
use Rattle.broker_link.specs.declared.place.Place.{Place as CodePlace}
use Rattle.broker_link.specs.Places.{place_of}
use Rattle.consumer_state.proofs.PositionLemmas.{order_set}
use Rattle.instance.proofs.look.gather_for.Goals as goal

pub returns-clause-sound : goal.returns-clause-sound
returns-clause-sound g c =
    let ws : length c.gather.new.places ≡ c.args.consumer.now.assignment.len = grind (arith, common_steps) in
    let items = with_items_is c.args.consumer.now.assignment c.gather.new.places ws in
    let set = c.gather.ensures.set in
    let old : List Place = map place_of c.deref_mut.result.now in
    let order : IsInOrder old = subst (λ (ps : List CodePlace). IsInOrder (map place_of ps)) (sym c.deref_mut.ensures.value) c.requires.sound.order in
    let now : IsInOrder (map place_of (with_items c.args.consumer.now.assignment c.gather.new.places).items) =
    subst (λ (ps : List CodePlace). IsInOrder (map place_of ps)) (sym items) (order_set old set.news (map place_of c.gather.new.places) set.after order) in
    record {
      sound = record {
        order = now;
        low = subst (λ (ps : List CodePlace). IsLow (map place_of ps)) (sym items) (c.gather.ensures.kept (subst (λ (ps : List CodePlace). IsLow (map place_of ps)) (sym c.deref_mut.ensures.value) c.requires.sound.sound.low));
        names = c.requires.sound.sound.names;
      };
      order = subst (λ (ps : List CodePlace). IsInOrder (map place_of ps)) (sym items) (order_set old set.news (map place_of c.gather.new.places) set.after order);
      rotation = omega (arith, c.requires.sound.rotation, ap length items, ws, c.deref_mut.ensures.len, ap length c.deref_mut.ensures.value);
    }
