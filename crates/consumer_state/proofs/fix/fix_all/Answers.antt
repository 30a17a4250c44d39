use Rattle.std.proofs.Common.{◌≡◌, ◌++◌, ◌∷◌, [], ap, sym, subst, ◌∙◌, ℤ, map, arith, rules, slice_index_or, pos, to_z, of_z, w64}
use Rattle.std.proofs.lemmas.Int.{to_z-of_z}
use Rattle.std.proofs.lemmas.Result.{err_from_is_err_and}
use Rattle.model.specs.state.Log.{Log}
use Rattle.broker_link.specs.Fetching.{edge_view}
use Rattle.broker_link.specs.Replies.{IsGood}
use Rattle.consumer_state.specs.declared.topics.AssignNo.{AssignNo}
use Rattle.consumer_state.specs.LinkCalls.{refusal_of}
use Rattle.broker_link.specs.Places.{at_in}
use Rattle.consumer_state.proofs.Fixing.{fixed_next, low_push, part_has, whose_next}
use Rattle.consumer_state.proofs.Linking.{counts_kept, goes_on}
use Rattle.consumer_state.proofs.fix.fix_all.Goals as goal

pub returns-in_err-place-clause-goes : goal.returns-in_err-place-clause-goes
returns-in_err-place-clause-goes g c =
    goes_on (g.L.Link.stand c.args.link.now) (g.L.Link.stand c.loop-i.link) (g.L.Link.stand c.fix_next.new.link) c.loop-i.invariant.goes c.fix_next.ensures.goes

pub returns-in_err-place-clause-good : goal.returns-in_err-place-clause-good
returns-in_err-place-clause-good g c = λ plain tells all.
    let a : Log = (g.L.Link.stand c.args.link.now).log in
    let m : Log = (g.L.Link.stand c.loop-i.link).log in
    let goes = c.loop-i.invariant.goes in
    let p = err_from_is_err_and c.from_residual.result c.from_residual.ensures.1 in
    let has = part_has a m c.args.parts.now c.loop-i.i c.index-parts-i.result c.loop-i-test.true c.index-parts-i.is (goes.keeps tells).0 all in
    rw p.1 (subst (λ (e : AssignNo). IsGood (refusal_of e)) (sym p.2) (c.in_err-place.ensures.good (goes.plainly plain) (goes.telling tells) has))

pub returns-in_err-push-clause-goes : goal.returns-in_err-push-clause-goes
returns-in_err-push-clause-goes g c =
    goes_on (g.L.Link.stand c.args.link.now) (g.L.Link.stand c.loop-i.link) (g.L.Link.stand c.fix_next.new.link) c.loop-i.invariant.goes c.fix_next.ensures.goes

pub loop-i-preserved : goal.loop-i-preserved
loop-i-preserved g c =
    let a : Log = (g.L.Link.stand c.args.link.now).log in
    let m : Log = (g.L.Link.stand c.loop-i.link).log in
    let b : Log = (g.L.Link.stand c.fix_next.new.link).log in
    let goes = c.loop-i.invariant.goes in
    let read : ℤ = slice_index_or c.args.known.now c.loop-i.i (pos 0) in
    let known : ℤ = to_z w64 (of_z w64 read) in
    let same : known ≡ read = search (rules, to_z-of_z) in
    let whole : c.push.new.places.items ≡ c.loop-i.places.items ++ c.in_ok-place.place ∷ [] = c.in_ok-push.ensures in
    record {
      goes = goes_on (g.L.Link.stand c.args.link.now) (g.L.Link.stand c.loop-i.link) (g.L.Link.stand c.fix_next.new.link) goes c.fix_next.ensures.goes;
      kept = counts_kept (g.L.Link.stand c.args.link.now).counts (g.L.Link.stand c.loop-i.link).counts (g.L.Link.stand c.fix_next.new.link).counts c.loop-i.invariant.kept c.fix_next.ensures.caused.kept;
      whose = ap (map at_in) whole ∙ whose_next c.args.parts.now c.loop-i.places.items c.loop-i.i c.index-parts-i.result c.in_ok-place.place c.loop-i-test.true c.index-parts-i.is c.loop-i.invariant.whose c.in_ok-place.ensures.whose;
      small = rw whole (low_push c.loop-i.places.items c.in_ok-place.place c.loop-i.invariant.small c.in_ok-place.ensures.small);
      fixed = λ tells is.
          let still = goes.telling tells in
          let is_log = goes.is_log tells is in
          let next = fixed_next (edge_view c.args.reset) a m b c.args.parts.now c.args.known.now c.loop-i.places.items c.loop-i.i c.index-parts-i.result known (pos 0) c.in_ok-place.place
          (omega arith) (omega arith) c.index-parts-i.is same (c.loop-i.invariant.fixed tells is) (c.fix_next.ensures.goes.is_log still is_log, (c.fix_next.ensures.goes.keeps still).0) c.in_ok-place.ensures.whose (c.in_ok-place.ensures.fixed still) in
          rw whole next;
    }
