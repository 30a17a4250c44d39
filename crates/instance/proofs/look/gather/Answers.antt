use Rattle.std.proofs.Common.{◌≡◌, List, map, length, refl, ap, sym, subst, ◌∙◌, arith}
use Rattle.std.specs.List.{All}
use Rattle.model.specs.state.Log.{Log}
use Rattle.model.specs.step.Walk.{Place}
use Rattle.broker_link.specs.Fetching.{edge_view}
use Rattle.broker_link.specs.declared.fetch.Fetched.{Fetched}
use Rattle.instance.specs.Gathering.{AreSet, GotFrom, HaveAll, IsHand, news_of}
use Rattle.instance.specs.Walk.{lots_of}
use Rattle.broker_link.specs.Places.{place_of}
use Rattle.model.proofs.Stretches.{keeps_itself}
use Rattle.instance.proofs.Passing.{passes_on}
use Rattle.instance.proofs.Gathering.{if_ok_both, all_are_inside, hand_of}
use Rattle.consumer_state.proofs.PositionLemmas.{ats_set_all, have_set, order_set}
use Rattle.instance.proofs.Setting.{sets_none, sets_back, set_inside, set_is}
use Rattle.instance.proofs.look.gather.Goals as goal

pub returns-then-is_empty-clause-set : goal.returns-then-is_empty-clause-set
returns-then-is_empty-clause-set g c =
    sets_none (g.L.Link.stand c.args.link.now).tells (edge_view c.args.edge) (g.L.Link.stand c.args.link.now).log (g.L.Link.stand c.args.link.now).log (map place_of c.args.places.now) c.args.events.now c.requires.none (λ t. keeps_itself (g.L.Link.stand c.args.link.now).log)

pub returns-then-all_inside-clause-hand : goal.returns-then-all_inside-clause-hand
returns-then-all_inside-clause-hand g c = λ t log.
    let b : Log = (g.L.Link.stand c.fetch_from.new.link).log in
    let got : GotFrom b (map place_of c.args.places.now) c.in-Ok.fetched = c.in-Ok.ensures.got t in
    let inside : All (λ (f : Fetched). f.out_of_range ≡ Rattle.std.proofs.Common.false) c.in-Ok.fetched = subst (All (λ (f : Fetched). f.out_of_range ≡ Rattle.std.proofs.Common.false)) c.as_slice.ensures (c.all_inside.ensures.0 c.if-all_inside.true) in
    hand_of b c.args.places.now c.in-Ok.fetched c.in-Ok.ensures.same got (all_are_inside b (map place_of c.args.places.now) c.in-Ok.fetched got.each inside)

pub returns-in-Err-set_back-clause-passes : goal.returns-in-Err-set_back-clause-passes
returns-in-Err-set_back-clause-passes g c = passes_on c.fetch_from.ensures.passes c.set_back.ensures.passes

pub returns-in-Err-set_back-clause-set : goal.returns-in-Err-set_back-clause-set
returns-in-Err-set_back-clause-set g c =
    let passes = passes_on c.fetch_from.ensures.passes c.set_back.ensures.passes in
    subst (λ (ps : List Place). Rattle.instance.specs.Gathering.SetsBack (g.L.Link.stand c.args.link.now).tells (edge_view c.args.edge) (g.L.Link.stand c.args.link.now).log (map place_of c.args.places.now) c.args.events.now (g.L.Link.stand c.set_back.new.link).log ps) (ap (map place_of) (sym c.in-Err-set_back.ensures.stays))
    (sets_none (g.L.Link.stand c.args.link.now).tells (edge_view c.args.edge) (g.L.Link.stand c.args.link.now).log (g.L.Link.stand c.set_back.new.link).log (map place_of c.args.places.now) c.args.events.now c.requires.none (λ t. passes.keeps t))

pub returns-in-Err-set_back-clause-good : goal.returns-in-Err-set_back-clause-good
returns-in-Err-set_back-clause-good g c = λ plain t have.
    let h = c.fetch_from.ensures.passes in
    c.in-Err-set_back.ensures.good (h.plainly plain) (h.telling t) (have_set (g.L.Link.stand c.args.link.now).log (g.L.Link.stand c.fetch_from.new.link).log (map place_of c.args.places.now) (map place_of c.args.places.now) (h.keeps t) refl have)

pub fetch_from-requires-2-clause-order : goal.fetch_from-requires-2-clause-order
fetch_from-requires-2-clause-order g c =
    let set = c.in-Ok-set_back.ensures.set in
    order_set (map place_of c.args.places.now) (news_of (map place_of c.args.places.now) set.told) (map place_of c.set_back.new.places) (set_is (g.L.Link.stand c.fetch_from.new.link).tells (edge_view c.args.edge) (g.L.Link.stand c.fetch_from.new.link).log (g.L.Link.stand c.set_back.new.link).log (map place_of c.args.places.now) c.as_slice-2.result.now c.in-Ok-set_back.news (map place_of c.set_back.new.places) c.requires.order set) c.requires.order

pub returns-clause-passes : goal.returns-clause-passes
returns-clause-passes g c = passes_on c.fetch_from.ensures.passes (passes_on c.set_back.ensures.passes c.fetch_from-2.ensures.passes)

pub returns-clause-set : goal.returns-clause-set
returns-clause-set g c =
    let first = c.fetch_from.ensures.passes in
    let second = c.set_back.ensures.passes in
    let third = c.fetch_from-2.ensures.passes in
    let fetched : List Fetched = c.in-Ok.fetched in
    let set : AreSet (g.L.Link.stand c.fetch_from.new.link).tells (edge_view c.args.edge) (g.L.Link.stand c.fetch_from.new.link).log (map place_of c.args.places.now) fetched c.in-Ok-set_back.news (g.L.Link.stand c.set_back.new.link).log (map place_of c.set_back.new.places) =
    subst (λ (fs : List Fetched). AreSet (g.L.Link.stand c.fetch_from.new.link).tells (edge_view c.args.edge) (g.L.Link.stand c.fetch_from.new.link).log (map place_of c.args.places.now) fs c.in-Ok-set_back.news (g.L.Link.stand c.set_back.new.link).log (map place_of c.set_back.new.places)) c.as_slice-2.ensures c.in-Ok-set_back.ensures.set in
    sets_back (g.L.Link.stand c.args.link.now).tells (g.L.Link.stand c.fetch_from.new.link).tells (edge_view c.args.edge) (g.L.Link.stand c.args.link.now).log (g.L.Link.stand c.fetch_from.new.link).log (g.L.Link.stand c.set_back.new.link).log (g.L.Link.stand c.fetch_from-2.new.link).log
    (map place_of c.args.places.now) fetched c.in-Ok-set_back.news (map place_of c.set_back.new.places) c.requires.order
    (λ t. first.telling t) (λ t. first.keeps t) (λ t. first.is_log t) (λ t. c.in-Ok.ensures.got t) (λ t. third.keeps (second.telling (first.telling t))) set

pub returns-clause-hand : goal.returns-clause-hand
returns-clause-hand g c = λ t log.
    let first = c.fetch_from.ensures.passes in
    let second = c.set_back.ensures.passes in
    let third = c.fetch_from-2.ensures.passes in
    let fetched : List Fetched = c.in-Ok.fetched in
    let s : Log = (g.L.Link.stand c.fetch_from.new.link).log in
    let m : Log = (g.L.Link.stand c.set_back.new.link).log in
    let b : Log = (g.L.Link.stand c.fetch_from-2.new.link).log in
    let set : AreSet (g.L.Link.stand c.fetch_from.new.link).tells (edge_view c.args.edge) s (map place_of c.args.places.now) fetched c.in-Ok-set_back.news m (map place_of c.set_back.new.places) =
    subst (λ (fs : List Fetched). AreSet (g.L.Link.stand c.fetch_from.new.link).tells (edge_view c.args.edge) s (map place_of c.args.places.now) fs c.in-Ok-set_back.news m (map place_of c.set_back.new.places)) c.as_slice-2.ensures c.in-Ok-set_back.ensures.set in
    let inside = set_inside (g.L.Link.stand c.fetch_from.new.link).tells (edge_view c.args.edge) s m b (map place_of c.args.places.now) fetched c.in-Ok-set_back.news (map place_of c.set_back.new.places)
    (first.telling t) (first.is_log t log) (c.in-Ok.ensures.got t) (second.keeps (first.telling t)) (third.keeps (second.telling (first.telling t))) set in
    if_ok_both c.fetch_from-2.result (λ fs. length fs ≡ length c.set_back.new.places) (GotFrom b (map place_of c.set_back.new.places)) (λ fs. IsHand b (map place_of c.set_back.new.places) (lots_of c.set_back.new.places fs))
    (λ fs same got. hand_of b c.set_back.new.places fs same got inside) c.fetch_from-2.ensures.same (c.fetch_from-2.ensures.got (second.telling (first.telling t)))

pub returns-clause-good : goal.returns-clause-good
returns-clause-good g c = λ plain t have.
    let first = c.fetch_from.ensures.passes in
    let second = c.set_back.ensures.passes in
    let both = passes_on first second in
    let set = c.in-Ok-set_back.ensures.set in
    let is = set_is (g.L.Link.stand c.fetch_from.new.link).tells (edge_view c.args.edge) (g.L.Link.stand c.fetch_from.new.link).log (g.L.Link.stand c.set_back.new.link).log (map place_of c.args.places.now) c.as_slice-2.result.now c.in-Ok-set_back.news (map place_of c.set_back.new.places) c.requires.order set in
    c.fetch_from-2.ensures.good (both.plainly plain) (both.telling t)
    (have_set (g.L.Link.stand c.args.link.now).log (g.L.Link.stand c.set_back.new.link).log (map place_of c.args.places.now) (map place_of c.set_back.new.places) (both.keeps t) (ap (map (λ (p : Place). p.at)) is ∙ ats_set_all (news_of (map place_of c.args.places.now) set.told) (map place_of c.args.places.now)) have)

pub returns-clause-given : goal.returns-clause-given
returns-clause-given g c = λ turn t.
    let both = passes_on c.fetch_from.ensures.passes c.set_back.ensures.passes in
    c.fetch_from-2.ensures.given (both.turning turn) (both.telling t)
