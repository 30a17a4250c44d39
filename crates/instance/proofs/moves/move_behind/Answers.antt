use Rattle.std.proofs.Common.{◌≡◌, ◌<◌, ◌≤◌, ◌-◌, ◌+◌, ◌%◌, List, [], map, length, ap, sym, ◌∙◌, subst, arith, slice_index_or}
use Rattle.std.proofs.lemmas.Grind.{common_steps}
use Rattle.std.proofs.lemmas.Bool.Decides.{nat_tests}
use Rattle.std.proofs.lemmas.List.{with_items_is, length-map, nil_from_length}
use Rattle.std.specs.Vec.{with_items}
use Rattle.model.specs.step.Events.{moved}
use Rattle.model.specs.state.World.{IsLow, IsApart, IsInOrder, moved_places}
use Rattle.model.specs.step.Walk.{Place, Item}
use Rattle.model.proofs.Moves.{apart_from_order}
use Rattle.instance.specs.declared.walk.Pick.{Pick}
use Rattle.broker_link.specs.declared.place.Place.{Place as CodePlace}
use Rattle.instance.specs.Walk.{item_in, lots_of}
use Rattle.broker_link.specs.Places.{place_of}
use Rattle.consumer_state.specs.Views.{consumer_of, mode_of}
use Rattle.instance.proofs.Picking.{pick_within}
use Rattle.instance.proofs.Moving.{moved_is, moved_by_none, order_moved}
use Rattle.instance.proofs.moves.move_behind.Goals as goal

pub returns-then-count-eq0-clause-moved : goal.returns-then-count-eq0-clause-moved
returns-then-count-eq0-clause-moved c =
    let none : c.args.picks.now ≡ [] = nil_from_length c.args.picks.now (grind (arith, common_steps, nat_tests)) in
    sym (ap (λ ps. moved (map (item_in (lots_of c.args.consumer.now.assignment.items c.args.fetched.now)) ps) (consumer_of c.args.consumer.now)) none ∙ moved_by_none (consumer_of c.args.consumer.now))

pub advance-requires-clause-apart : goal.advance-requires-clause-apart
advance-requires-clause-apart c =
    subst (λ (ps : List CodePlace). IsApart (map place_of ps)) (sym c.deref_mut.ensures.value) (apart_from_order (map place_of c.args.consumer.now.assignment.items) c.requires.sound.order)

pub overflow_add-consumer : goal.overflow_add-consumer
overflow_add-consumer c =
    let any : Pick = record { lot = 0; row = 0 } in
    let some : 0 < length c.args.picks.now = omega (arith, c.if-count-eq0.false) in
    let pick = c.requires.picks (length c.args.picks.now - 1) any (omega arith) in
    let lt = pick_within c.args.consumer.now.assignment.items c.args.fetched.now (slice_index_or c.args.picks.now (length c.args.picks.now - 1) any) c.requires.same pick in
    grind (arith, lt, c.deref_mut.type_inv, ap length c.deref_mut.ensures.value)

pub nonzero_rem-consumer : goal.nonzero_rem-consumer
nonzero_rem-consumer c =
    let any : Pick = record { lot = 0; row = 0 } in
    let some : 0 < length c.args.picks.now = omega (arith, c.if-count-eq0.false) in
    let pick = c.requires.picks (length c.args.picks.now - 1) any (omega arith) in
    let lt = pick_within c.args.consumer.now.assignment.items c.args.fetched.now (slice_index_or c.args.picks.now (length c.args.picks.now - 1) any) c.requires.same pick in
    omega (arith, lt, c.len.ensures, c.deref_mut.ensures.len, ap length c.deref_mut.ensures.value)

pub returns : goal.returns
returns c =
    let any : Pick = record { lot = 0; row = 0 } in
    let old : List CodePlace = c.args.consumer.now.assignment.items in
    let taken : List Item = map (item_in (lots_of old c.args.fetched.now)) c.args.picks.now in
    let p : Pick = slice_index_or c.args.picks.now (length c.args.picks.now - 1) any in
    let some : 0 < length c.args.picks.now = omega (arith, c.if-count-eq0.false) in
    let pick = c.requires.picks (length c.args.picks.now - 1) any (omega arith) in
    let lt = pick_within old c.args.fetched.now p c.requires.same pick in
    let ws : length c.advance.new.assignment ≡ c.args.consumer.now.assignment.len = grind (arith, common_steps) in
    let items = with_items_is c.args.consumer.now.assignment c.advance.new.assignment ws in
    let now : List Place = map place_of (with_items c.args.consumer.now.assignment c.advance.new.assignment).items in
    let now_is : now ≡ moved_places taken (map place_of old) =
    ap (map place_of) items ∙ (c.advance.ensures.places ∙ ap (λ (ps : List CodePlace). moved_places (map (item_in (lots_of ps c.args.fetched.now)) c.args.picks.now) (map place_of ps)) c.deref_mut.ensures.value) in
    let count : c.len.result ≡ length old = omega (arith, c.len.ensures, c.deref_mut.ensures.len, ap length c.deref_mut.ensures.value) in
    record {
      moved = moved_is (consumer_of c.args.consumer.now) old c.args.fetched.now c.args.picks.now now c.len.result p any some (λ i. p) pick c.requires.same (λ i. map place_of old) (λ i. mode_of (map place_of old)) c.requires.sound.order now_is (omega (arith, count, length-map old place_of));
      sound = record {
        sound = record {
          order = subst IsInOrder (sym now_is) (order_moved taken (map place_of old) c.requires.sound.order);
          low = subst (λ (ps : List CodePlace). IsLow (map place_of ps)) (sym items) (c.advance.ensures.low (subst (λ (ps : List CodePlace). IsLow (map place_of ps)) (sym c.deref_mut.ensures.value) c.requires.sound.sound.low));
          names = c.requires.sound.sound.names;
        };
        order = subst IsInOrder (sym now_is) (order_moved taken (map place_of old) c.requires.sound.order);
        rotation = (let size : length (with_items c.args.consumer.now.assignment c.advance.new.assignment).items ≡ c.len.result = omega (arith, ap length items, ws, c.len.ensures) in
            let within : (p.lot + 1) % c.len.result ≤ c.len.result = (let above : 0 < c.len.result = omega (arith, lt, count) in omega arith) in omega (arith, within, size));
      };
    }
