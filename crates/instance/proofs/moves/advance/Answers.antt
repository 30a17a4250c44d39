use Rattle.std.proofs.Common.{◌≡◌, ◌<◌, ℤ, map, length, pos, ◌≤ℤ◌, nat_abs, slice_index_or, sym, ap, ◌∙◌, subst, arith, to_z, of_z, w64}
use Rattle.std.proofs.lemmas.Int.{to_z-of_z}
use Rattle.instance.specs.declared.walk.Pick.{Pick}
use Rattle.consumer_state.specs.Positions.{set_at}
use Rattle.instance.specs.Walk.{IsOffset}
use Rattle.broker_link.specs.Places.{place_of}
use Rattle.instance.proofs.Picking.{has_row, pick_within, stored_offset}
use Rattle.instance.proofs.Moving.{moved_none, advance_more}
use Rattle.instance.proofs.moves.advance.Goals as goal

pub loop-pick-init : goal.loop-pick-init
loop-pick-init c = record { places = sym (moved_none (map place_of c.args.assignment.now)); low = λ h. h }

pub stored_at-requires : goal.stored_at-requires
stored_at-requires c =
    let any : Pick = record { lot = 0; row = 0 } in
    has_row c.args.assignment.now c.args.fetched.now (slice_index_or c.args.picks.now c.loop-pick.pick-index any) c.requires.same (c.requires.picks c.loop-pick.pick-index any c.loop-pick-test.true)

pub behind-next-requires : goal.behind-next-requires
behind-next-requires c =
    let any : Pick = record { lot = 0; row = 0 } in
    let p : Pick = slice_index_or c.args.picks.now c.loop-pick.pick-index any in
    subst IsOffset (sym c.stored_at.ensures) (stored_offset c.args.fetched.now p c.requires.offsets (has_row c.args.assignment.now c.args.fetched.now p c.requires.same (c.requires.picks c.loop-pick.pick-index any c.loop-pick-test.true)))

pub put_position-requires : goal.put_position-requires
put_position-requires c =
    let any : Pick = record { lot = 0; row = 0 } in
    let p : Pick = slice_index_or c.args.picks.now c.loop-pick.pick-index any in
    let lt : p.lot < length c.args.assignment.now = pick_within c.args.assignment.now c.args.fetched.now p c.requires.same (c.requires.picks c.loop-pick.pick-index any c.loop-pick-test.true) in
    record { place = omega (arith, lt, c.loop-pick.auto.assignment); low = (let signed : to_z w64 (of_z w64 c.behind-next.result) ≡ c.behind-next.result = grind (arith, to_z-of_z) in subst (λ (z : ℤ). pos 0 ≤ℤ z) (sym signed) c.behind-next.ensures.low) }

pub loop-pick-preserved : goal.loop-pick-preserved
loop-pick-preserved c =
    let any : Pick = record { lot = 0; row = 0 } in
    let p : Pick = slice_index_or c.args.picks.now c.loop-pick.pick-index any in
    let signed : to_z w64 (of_z w64 c.behind-next.result) ≡ c.behind-next.result = grind (arith, to_z-of_z) in
    record {
      places = advance_more c.args.assignment.now c.loop-pick.assignment _ c.args.fetched.now c.args.picks.now c.loop-pick.pick-index p any c.stored_at.result.now (nat_abs c.behind-next.result)
          c.requires.same c.requires.apart c.loop-pick-test.true (λ i. p) (c.requires.picks c.loop-pick.pick-index any c.loop-pick-test.true) c.stored_at.ensures c.behind-next.ensures.value c.loop-pick.invariant.places
          (c.put_position.ensures.places ∙ ap (λ (z : ℤ). set_at (map place_of c.loop-pick.assignment) p.lot (nat_abs z)) signed);
      low = λ h. c.put_position.ensures.low (c.loop-pick.invariant.low h);
    }
