use Rattle.std.proofs.Common.{◌≡◌, true, ap, sym, ◌∙◌, List, ℕ, map, take, subst}
use Rattle.std.specs.Prelude.{bytes_eq}
use Rattle.std.specs.List.{list_any}
use Rattle.broker_link.specs.Fetching.{at_of}
use Rattle.broker_link.specs.declared.fetch.TopicPart.{TopicPart as Part}
use Rattle.consumer_state.specs.Topics.{topic_code}
use Rattle.consumer_state.specs.LinkCalls.{FitsCode}
use Rattle.consumer_state.proofs.Lacking.{fits_next, pass_again}
use Rattle.consumer_state.proofs.topics.check_place.Goals as goal

pub returns-then-is_named-clause-code : goal.returns-then-is_named-clause-code
returns-then-is_named-clause-code g c = λ tells is pass.
    let a = (g.L.Link.stand c.args.link.now).log in
    let part : Part = c.index-parts-place.result in
    let topic : c.as_str-topic.result.now ≡ part.topic = c.as_str-topic.ensures ∙ ap (λ (p : Part). p.topic) (sym c.index-parts-place.is) in
    let named : list_any (λ (p : Part). bytes_eq p.topic part.topic) (take c.args.place c.args.parts.now) ≡ true =
    ap (λ (t : List ℕ). list_any (λ (p : Part). bytes_eq p.topic t) (take c.args.place c.args.parts.now)) (sym topic) ∙ (sym c.is_named.ensures ∙ c.if-is_named.true) in
    pass_again a c.args.parts.now c.args.place part c.requires.within c.index-parts-place.is pass named

pub returns-clause-code : goal.returns-clause-code
returns-clause-code g c = λ tells is pass.
    let a = (g.L.Link.stand c.args.link.now).log in
    let part : Part = c.index-parts-place.result in
    let topic : c.as_str-topic.result.now ≡ part.topic = c.as_str-topic.ensures ∙ ap (λ (p : Part). p.topic) (sym c.index-parts-place.is) in
    fits_next a c.args.parts.now c.args.place part c.check_topic.result c.requires.within c.index-parts-place.is pass
    (subst (λ (t : List ℕ). FitsCode (topic_code a (map at_of c.args.parts.now) t) c.check_topic.result) topic (c.check_topic.ensures.code tells is))
