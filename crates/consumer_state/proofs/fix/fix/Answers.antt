use Rattle.std.proofs.Common.{ap, sym, subst, ◌∙◌, List, ℤ, ℕ, map, length}
use Rattle.std.specs.List.{AllZip}
use Rattle.std.proofs.lemmas.List.{length-map}
use Rattle.std.proofs.lemmas.Result.{IfOk-weaker}
use Rattle.std.proofs.lemmas.List.Elements.{All-weaker}
use Rattle.model.specs.state.Log.{Log, TopicPart}
use Rattle.model.specs.step.Walk.{Place}
use Rattle.model.specs.step.Fixed.{HasPart}
use Rattle.broker_link.specs.Fetching.{IsCommittedAt, at_of, edge_view}
use Rattle.broker_link.specs.declared.fetch.TopicPart.{TopicPart as Part}
use Rattle.consumer_state.specs.Fix.{IsKnown, is_new, merged}
use Rattle.consumer_state.specs.Order.{AreRising}
use Rattle.broker_link.specs.Places.{place_of}
use Rattle.consumer_state.proofs.Fixing.{fixes_of, fixes_since, has_part_later, long_merged}
use Rattle.consumer_state.proofs.Knowing.{all_known}
use Rattle.consumer_state.proofs.Linking.{goes_on}
use Rattle.consumer_state.proofs.Sorting.{rising_filter}
use Rattle.consumer_state.proofs.fix.fix.Goals as goal

pub committed-requires : goal.committed-requires
committed-requires g c =
    subst (λ (l : List TopicPart). AreRising l) (sym (ap (λ (l : List Part). map at_of l) c.as_slice.ensures.value ∙ c.in_ok-news.ensures))
    (rising_filter (is_new (map place_of c.args.kept.now)) (map at_of c.args.parts.now) c.requires)

pub fix_all-requires : goal.fix_all-requires
fix_all-requires g c = record {
  same = ap (λ (l : List ℤ). length l) (c.as_slice-3.ensures.value ∙ c.in_ok-known.ensures)
      ∙ (long_merged (map place_of c.args.kept.now) (map at_of c.args.parts.now) c.as_slice-2.result.now 0 ∙ length-map c.args.parts.now at_of);
}

pub returns-clause-goes : goal.returns-clause-goes
returns-clause-goes g c =
    goes_on (g.L.Link.stand c.args.link.now) (g.L.Link.stand c.committed.new.link) (g.L.Link.stand c.fix_all.new.link) c.committed.ensures.goes c.fix_all.ensures.goes

pub returns-clause-fixes : goal.returns-clause-fixes
returns-clause-fixes g c = λ tells is.
    let a : Log = (g.L.Link.stand c.args.link.now).log in
    let m : Log = (g.L.Link.stand c.committed.new.link).log in
    let b : Log = (g.L.Link.stand c.fix_all.new.link).log in
    let goes = c.committed.ensures.goes in
    let keeps = goes.keeps tells in
    let kept : List Place = map place_of c.args.kept.now in
    let ats : List TopicPart = map at_of c.args.parts.now in
    let group : List ℕ = c.args.group.now in
    let zip : AllZip (IsCommittedAt m group) c.in_ok-news.news.items c.in_ok-offsets.offsets =
    subst (λ (l : List Part). AllZip (IsCommittedAt m group) l c.in_ok-offsets.offsets) c.as_slice.ensures.value (c.in_ok-offsets.ensures.told tells) in
    let known : AllZip (IsKnown kept (m.committed group)) ats c.as_slice-3.result.now =
    subst (λ (l : List ℤ). AllZip (IsKnown kept (m.committed group)) ats l)
    (sym (c.as_slice-3.ensures.value ∙ (c.in_ok-known.ensures ∙ ap (λ (l : List ℤ). merged kept ats l 0) c.as_slice-2.ensures)))
    (all_known kept m group ats c.in_ok-news.news.items c.in_ok-offsets.offsets c.in_ok-news.ensures zip) in
    IfOk-weaker c.fix_all.result _ _
    (λ places fixed. fixes_since (a.committed group) (m.committed group) (edge_view c.args.reset) kept a m ats (map place_of places.items) b (λ at. keeps.2 group at) keeps.0
    (fixes_of (m.committed group) (edge_view c.args.reset) kept m ats c.as_slice-3.result.now (map place_of places.items) b known fixed))
    (c.fix_all.ensures.fixed (goes.telling tells) (goes.is_log tells is))

pub returns-clause-good : goal.returns-clause-good
returns-clause-good g c = λ plain tells all.
    let a : Log = (g.L.Link.stand c.args.link.now).log in
    let m : Log = (g.L.Link.stand c.committed.new.link).log in
    let goes = c.committed.ensures.goes in
    c.fix_all.ensures.good (goes.plainly plain) (goes.telling tells)
    (All-weaker (λ (at : TopicPart). HasPart a at) (λ (at : TopicPart). HasPart m at) (λ at has. has_part_later a m at (goes.keeps tells).0 has) (map at_of c.args.parts.now) all)
