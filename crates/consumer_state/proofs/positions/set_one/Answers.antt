use Rattle.std.proofs.Common.{◌≡◌, ◌∙◌, ap, sym, map, Some, None, ℤ, arith, to_z, of_z, w32, w64, nat_abs}
use Rattle.std.specs.List.{position}
use Rattle.std.proofs.lemmas.Int.{to_z-of_z}
use Rattle.model.specs.state.Log.{TopicPart}
use Rattle.broker_link.specs.Fetching.{named_at}
use Rattle.broker_link.specs.Places.{at_in, place_of}
use Rattle.consumer_state.specs.Positions.{set_at}
use Rattle.consumer_state.proofs.PositionLemmas.{set_found, set_none, stands}
use Rattle.consumer_state.proofs.positions.set_one.Goals as goal

pub returns-in-Some-clause-places : goal.returns-in-Some-clause-places
returns-in-Some-clause-places c =
    let part : to_z w32 (of_z w32 c.args.new.now.partition) ≡ c.args.new.now.partition = grind (arith, to_z-of_z) in
    let signed : to_z w64 (of_z w64 c.args.new.now.position) ≡ c.args.new.now.position = grind (arith, to_z-of_z) in
    let at : named_at c.as_str.result.now (to_z w32 (of_z w32 c.args.new.now.partition)) ≡ at_in c.args.new.now = λ i. record { topic = c.as_str.ensures i; partition = nat_abs (part i) } in
    let found : position (stands (at_in c.args.new.now)) c.args.places.now ≡ Some c.in-Some.place = ap (λ (x : TopicPart). position (stands x) c.args.places.now) (sym at) ∙ (sym c.place_among.ensures ∙ c.in-Some.is) in
    c.put_position.ensures.places
    ∙ (ap (λ (z : ℤ). set_at (map place_of c.args.places.now) c.in-Some.place (nat_abs z)) signed ∙ set_found (at_in c.args.new.now) (nat_abs c.args.new.now.position) c.args.places.now c.in-Some.place c.args.new.now found c.requires)

pub returns-in_default-clause-places : goal.returns-in_default-clause-places
returns-in_default-clause-places c =
    let part : to_z w32 (of_z w32 c.args.new.now.partition) ≡ c.args.new.now.partition = grind (arith, to_z-of_z) in
    let at : named_at c.as_str.result.now (to_z w32 (of_z w32 c.args.new.now.partition)) ≡ at_in c.args.new.now = λ i. record { topic = c.as_str.ensures i; partition = nat_abs (part i) } in
    let none : position (stands (at_in c.args.new.now)) c.args.places.now ≡ None = ap (λ (x : TopicPart). position (stands x) c.args.places.now) (sym at) ∙ (sym c.place_among.ensures ∙ c.in_default.is) in
    sym (set_none (place_of c.args.new.now) c.args.places.now c.args.new.now none)
