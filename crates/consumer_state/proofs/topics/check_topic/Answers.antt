use Rattle.std.proofs.Common.{true, false, sym, ◌∙◌, map, subst, ℕ, Option}
use Rattle.broker_link.specs.Fetching.{at_of}
use Rattle.broker_link.specs.Count.{IsCount}
use Rattle.consumer_state.proofs.Lacking.{no_topic, of_topic}
use Rattle.consumer_state.proofs.topics.check_topic.Goals as goal

pub returns-in_default-clause-code : goal.returns-in_default-clause-code
returns-in_default-clause-code g c = λ tells is.
    let a = (g.L.Link.stand c.args.link.now).log in
    let m = (g.L.Link.stand c.count_parts.new.link).log in
    no_topic a m c.args.topic.now (map at_of c.args.parts.now) (c.count_parts.ensures.goes.goes.keeps tells)
    (subst (λ (n : Option ℕ). IsCount m c.args.topic.now n) c.in_default.is (c.in_ok-count.ensures.counted tells is))

pub returns-then-lists_beyond-clause-code : goal.returns-then-lists_beyond-clause-code
returns-then-lists_beyond-clause-code g c = λ tells is.
    let a = (g.L.Link.stand c.args.link.now).log in
    let m = (g.L.Link.stand c.count_parts.new.link).log in
    of_topic a m c.args.topic.now c.args.parts.now c.in-Some.count true (c.count_parts.ensures.goes.goes.keeps tells)
    (subst (λ (n : Option ℕ). IsCount m c.args.topic.now n) c.in-Some.is (c.in_ok-count.ensures.counted tells is)) (sym c.lists_beyond.ensures ∙ c.if-lists_beyond.true)

pub returns-clause-code : goal.returns-clause-code
returns-clause-code g c = λ tells is.
    let a = (g.L.Link.stand c.args.link.now).log in
    let m = (g.L.Link.stand c.count_parts.new.link).log in
    of_topic a m c.args.topic.now c.args.parts.now c.in-Some.count false (c.count_parts.ensures.goes.goes.keeps tells)
    (subst (λ (n : Option ℕ). IsCount m c.args.topic.now n) c.in-Some.is (c.in_ok-count.ensures.counted tells is)) (sym c.lists_beyond.ensures ∙ c.if-lists_beyond.false)
