use Rattle.std.proofs.Common.{◌≡◌, ap, sym, subst, ◌∙◌, List, ℕ, Option}
use Rattle.broker_link.specs.declared.link.TopicInfo.{TopicInfo}
use Rattle.broker_link.specs.Count.{count_in, IsCount}
use Rattle.broker_link.proofs.CountLemmas.{counted}
use Rattle.broker_link.proofs.count.count_parts.Goals as goal

pub returns-clause-counted : goal.returns-clause-counted
returns-clause-counted g c = λ tells is.
    let log = (g.L.Link.stand c.metadata.new.self).log in
    let same : c.first_count.result ≡ count_in c.in_ok-infos.infos = c.first_count.ensures ∙ ap (λ (l : List TopicInfo). count_in l) c.as_slice.ensures in
    subst (λ (n : Option ℕ). IsCount log c.args.topic.now n) (sym same) (counted log c.args.topic.now c.in_ok-infos.infos (c.metadata.ensures.goes.goes.is_log tells is) (c.in_ok-infos.ensures.known tells))
