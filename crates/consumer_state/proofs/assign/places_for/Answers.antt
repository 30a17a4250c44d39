use Rattle.std.proofs.Common.{◌≡◌, ap, sym, subst, ◌∙◌, List, ℕ, map}
use Rattle.std.specs.Prelude.{All}
use Rattle.std.proofs.lemmas.List.Elements.{All-weaker}
use Rattle.std.proofs.lemmas.Result.{IfOk-weaker}
use Rattle.model.specs.state.Log.{Log, TopicPart}
use Rattle.model.specs.step.Walk.{Place}
use Rattle.model.specs.step.Fixed.{Fixes, HasPart}
use Rattle.model.specs.step.Rules.{lacking}
use Rattle.broker_link.specs.Fetching.{at_of, edge_view}
use Rattle.broker_link.specs.declared.fetch.TopicPart.{TopicPart as Part}
use Rattle.broker_link.specs.Places.{place_of}
use Rattle.consumer_state.proofs.Fixing.{fixes_since, has_part_later, is_set, sorted_there}
use Rattle.consumer_state.proofs.Lacking.{fits_failed}
use Rattle.consumer_state.proofs.Linking.{ok_both}
use Rattle.consumer_state.proofs.assign.places_for.Goals as goal

pub returns-clause-code : goal.returns-clause-code
returns-clause-code g c = λ tells is.
    fits_failed _ c.fix.result (lacking (g.L.Link.stand c.args.link.now).log (map at_of c.args.parts.now) (map at_of c.args.parts.now)) (c.in_ok-check_topics.ensures.code tells is) c.fix.ensures.failed

pub returns-clause-set : goal.returns-clause-set
returns-clause-set g c =
    let sorted : map at_of c.as_slice.result.now ≡ map at_of c.in_ok-sorted.sorted.items = ap (λ (l : List Part). map at_of l) c.as_slice.ensures.value in
    IfOk-weaker c.fix.result _ _
    (λ places whose. is_set (map at_of c.args.parts.now) (map at_of c.in_ok-sorted.sorted.items) places.items c.in_ok-sorted.ensures (whose ∙ sorted)) c.fix.ensures.whose

pub returns-clause-fixes : goal.returns-clause-fixes
returns-clause-fixes g c = λ tells is.
    let a : Log = (g.L.Link.stand c.args.link.now).log in
    let m : Log = (g.L.Link.stand c.check_topics.new.link).log in
    let b : Log = (g.L.Link.stand c.fix.new.link).log in
    let goes = c.check_topics.ensures.goes in
    let keeps = goes.keeps tells in
    let group : List ℕ = c.args.group.now in
    let kept : List Place = map place_of c.args.kept.now in
    ok_both _ _ c.fix.result _ _ _
    (λ places whose fixes.
    subst (λ (l : List TopicPart). Fixes (a.committed group) (edge_view c.args.reset) kept a l (map place_of places.items) b) (sym whose)
    (fixes_since (a.committed group) (m.committed group) (edge_view c.args.reset) kept a m (map at_of c.as_slice.result.now) (map place_of places.items) b (λ at. keeps.2 group at) keeps.0 fixes))
    c.fix.ensures.whose (c.fix.ensures.fixes (goes.telling tells) (goes.is_log tells is))

pub returns-clause-good : goal.returns-clause-good
returns-clause-good g c = λ plain tells is.
    let a : Log = (g.L.Link.stand c.args.link.now).log in
    let m : Log = (g.L.Link.stand c.check_topics.new.link).log in
    let goes = c.check_topics.ensures.goes in
    let there : All (HasPart a) (map at_of c.in_ok-sorted.sorted.items) =
    sorted_there a (map at_of c.args.parts.now) (map at_of c.in_ok-sorted.sorted.items) (c.in_ok-check_topics.ensures.code tells is) c.in_ok-sorted.ensures in
    let later : All (HasPart m) (map at_of c.in_ok-sorted.sorted.items) =
    All-weaker (λ (at : TopicPart). HasPart a at) (λ (at : TopicPart). HasPart m at) (λ at has. has_part_later a m at (goes.keeps tells).0 has) (map at_of c.in_ok-sorted.sorted.items) there in
    c.fix.ensures.good (goes.plainly plain) (goes.telling tells) (subst (λ (l : List Part). All (HasPart m) (map at_of l)) (sym c.as_slice.ensures.value) later)
