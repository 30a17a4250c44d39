use Rattle.std.proofs.Common.{◌≡◌, ◌+◌, take, length, map, sym, ap, subst, ◌++◌, [], ◌∷◌, arith}
use Rattle.std.specs.List.{All}
use Rattle.std.proofs.lemmas.List.{length_push}
use Rattle.std.proofs.lemmas.List.Elements.{All-push}
use Rattle.model.specs.state.Log.{Log}
use Rattle.broker_link.specs.Fetching.{edge_view}
use Rattle.instance.specs.Gathering.{AreTold, EdgesTold, IsLowIf}
use Rattle.broker_link.specs.Places.{place_of}
use Rattle.instance.proofs.Passing.{passes_on, comes_on}
use Rattle.consumer_state.proofs.Fixing.{has_part_later}
use Rattle.instance.proofs.Resetting.{told_more, edges_told_more, has_at}
use Rattle.instance.proofs.resets.tell_edges.Goals as goal

pub returns-in-Err-clause-passes : goal.returns-in-Err-clause-passes
returns-in-Err-clause-passes g c = passes_on c.loop-i.invariant.passes c.tell_one.ensures.passes

pub returns-in-Err-clause-good : goal.returns-in-Err-clause-good
returns-in-Err-clause-good g c = λ plain t have.
    let h = c.loop-i.invariant.passes in
    let has = has_part_later (g.L.Link.stand c.args.link.now).log (g.L.Link.stand c.loop-i.link).log (place_of c.index-places-i.result).at (h.keeps t) (has_at (g.L.Link.stand c.args.link.now).log c.args.places.now c.loop-i.i c.index-places-i.result have c.loop-i-test.true c.index-places-i.is) in
    c.in-Err.ensures.good (h.plainly plain) (h.telling t) has

pub returns-in-Err-clause-cause : goal.returns-in-Err-clause-cause
returns-in-Err-clause-cause g c = comes_on (g.L.Link.stand c.args.link.now).counts (g.L.Link.stand c.loop-i.link).counts (g.L.Link.stand c.tell_one.new.link).counts c.in-Err.e c.loop-i.invariant.passes.counts c.in-Err.ensures.cause

pub returns-in_err-push-clause-passes : goal.returns-in_err-push-clause-passes
returns-in_err-push-clause-passes g c = passes_on c.loop-i.invariant.passes c.tell_one.ensures.passes

pub loop-i-preserved : goal.loop-i-preserved
loop-i-preserved g c =
    let h = c.loop-i.invariant.passes in
    let a : Log = (g.L.Link.stand c.args.link.now).log in
    let m : Log = (g.L.Link.stand c.loop-i.link).log in
    let b : Log = (g.L.Link.stand c.tell_one.new.link).log in
    let k = c.tell_one.ensures.passes in
    let more : c.push.new.self ≡ c.loop-i.told ++ c.in-Ok.one ∷ [] = c.in_ok-push.ensures.ok in
    record {
      passes = passes_on h c.tell_one.ensures.passes;
      long = omega (arith, ap length more, length_push c.loop-i.told c.in-Ok.one, c.loop-i.invariant.long);
      are = subst (AreTold (take (c.loop-i.i + 1) c.args.fetched.now)) (sym more) (told_more c.args.fetched.now c.loop-i.told c.loop-i.i c.index-fetched-i.result c.in-Ok.one (omega (arith, c.loop-i-test.true, c.requires.same)) c.index-fetched-i.is c.loop-i.invariant.are c.in-Ok.ensures.same);
      low = subst (All IsLowIf) (sym more) (All-push IsLowIf c.loop-i.told c.in-Ok.one c.loop-i.invariant.low c.in-Ok.ensures.low);
      told = λ t log.
          subst (λ os. EdgesTold (edge_view c.args.edge) a (map place_of (take (c.loop-i.i + 1) c.args.places.now)) os b) (sym more)
          (edges_told_more (edge_view c.args.edge) a m b c.args.places.now c.loop-i.told c.loop-i.i c.index-places-i.result c.in-Ok.one c.loop-i-test.true c.index-places-i.is c.loop-i.invariant.long (c.loop-i.invariant.told t log)
          (k.is_log (h.telling t) (h.is_log t log)) (k.keeps (h.telling t)) (c.in-Ok.ensures.told (h.telling t)));
    }
