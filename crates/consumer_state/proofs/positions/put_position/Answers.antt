use Rattle.std.proofs.Common.{◌≡◌, ◌<◌, ◌^◌, ap, sym, subst, arith, to_z, of_z, w64, nat_abs, map}
use Rattle.std.proofs.lemmas.Int.{to_z-of_z, ints}
use Rattle.model.specs.state.World.{IsLow}
use Rattle.broker_link.specs.Places.{at_in, place_of}
use Rattle.consumer_state.proofs.PositionLemmas.{low_set, written_is}
use Rattle.consumer_state.proofs.positions.put_position.Goals as goal

pub returns-clause-places : goal.returns-clause-places
returns-clause-places c =
    let signed : to_z w64 (of_z w64 c.args.position) ≡ c.args.position = grind (arith, to_z-of_z) in
    written_is c.args.places.now c.args.place (nat_abs c.args.position) c.index-places-place.result _ c.requires.place c.index-places-place.is (ap at_in (sym c.index-places-place.is)) (ap nat_abs signed)

pub returns-clause-low : goal.returns-clause-low
returns-clause-low c = λ h.
    let fits : nat_abs c.args.position < 2 ^ 63 = grind (arith, ints) in
    let signed : to_z w64 (of_z w64 c.args.position) ≡ c.args.position = grind (arith, to_z-of_z) in
    let is = written_is c.args.places.now c.args.place (nat_abs c.args.position) c.index-places-place.result _ c.requires.place c.index-places-place.is (ap at_in (sym c.index-places-place.is)) (ap nat_abs signed) in
    subst IsLow (sym is) (low_set (map place_of c.args.places.now) c.args.place (nat_abs c.args.position) h fits)
