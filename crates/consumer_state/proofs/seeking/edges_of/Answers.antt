use Rattle.std.proofs.Common.{◌≡◌, ◌∙◌, subst, map, List, ℤ, length, negsuc, replicate}
use Rattle.std.proofs.lemmas.Result.{IfOk-weaker}
use Rattle.model.specs.state.Log.{Log, TopicPart}
use Rattle.broker_link.specs.Fetching.{at_of, edge_view}
use Rattle.broker_link.specs.Places.{place_of}
use Rattle.consumer_state.specs.Fix.{AreFixed}
use Rattle.consumer_state.proofs.SeekLemmas.{edges_of_fixed}
use Rattle.consumer_state.proofs.seeking.edges_of.Goals as goal

pub returns-clause-told : goal.returns-clause-told
returns-clause-told g c = λ tells is.
    let a : Log = (g.L.Link.stand c.args.link.now).log in
    let b : Log = (g.L.Link.stand c.fix_all.new.link).log in
    let ats : List TopicPart = map at_of c.args.parts.now in
    let known : c.as_slice.result.now ≡ replicate (length c.args.parts.now) (negsuc 0) = c.as_slice.ensures.value ∙ c.in_ok-known.ensures in
    IfOk-weaker c.fix_all.result _ _
    (λ places fixed. edges_of_fixed (edge_view c.args.edge) a ats (length c.args.parts.now) (map place_of places.items) b
    (subst (λ (l : List ℤ). AreFixed (edge_view c.args.edge) a ats l (map place_of places.items) b) known fixed))
    (c.fix_all.ensures.fixed tells is)
