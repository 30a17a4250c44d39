use Rattle.broker_link.proofs.Going.{consults_on, consults_once}
use Rattle.std.proofs.Common.{◌≡◌, ◌∙◌, ap, subst, sym, nat_abs, to_z, of_z, w32, w64, arith}
use Rattle.std.proofs.lemmas.Int.{to_z-of_z}
use Rattle.std.proofs.lemmas.Result.{err_from_is_err_and}
use Rattle.model.specs.state.Log.{TopicPart}
use Rattle.model.specs.state.World.Edge.{Start, End}
use Rattle.broker_link.specs.Fetching.{IsEdge, at_of, named_at}
use Rattle.model.proofs.Stretches.{keeps_on}
use Rattle.topic_reads.specs.Finding.{IsWantIfLinks}
use Rattle.topic_reads.proofs.Topics.{has_part_still, named_is}
use Rattle.topic_reads.proofs.Finding.{edges_there}
use Rattle.topic_reads.proofs.find.edges.Goals as goal

pub returns-in_err-start-clause-consults : goal.returns-in_err-start-clause-consults
returns-in_err-start-clause-consults g c =
    let m = g.L.Link.stand c.part_info.new.link in
    let n = g.L.Link.stand c.list_offset.new.self in
    consults_on (g.L.Link.stand c.args.link.now) m n c.part_info.ensures.consults (consults_once m n c.list_offset.result c.list_offset.ensures.goes)

pub returns-in_err-end-clause-consults : goal.returns-in_err-end-clause-consults
returns-in_err-end-clause-consults g c =
    let m = g.L.Link.stand c.part_info.new.link in
    let n = g.L.Link.stand c.list_offset.new.self in
    let b = g.L.Link.stand c.list_offset-2.new.self in
    let a = g.L.Link.stand c.args.link.now in
    consults_on a n b (consults_on a m n c.part_info.ensures.consults (consults_once m n c.list_offset.result c.list_offset.ensures.goes)) (consults_once n b c.list_offset-2.result c.list_offset-2.ensures.goes)

pub returns-clause-consults : goal.returns-clause-consults
returns-clause-consults g c =
    let m = g.L.Link.stand c.part_info.new.link in
    let n = g.L.Link.stand c.list_offset.new.self in
    let b = g.L.Link.stand c.list_offset-2.new.self in
    let a = g.L.Link.stand c.args.link.now in
    consults_on a n b (consults_on a m n c.part_info.ensures.consults (consults_once m n c.list_offset.result c.list_offset.ensures.goes)) (consults_once n b c.list_offset-2.result c.list_offset-2.ensures.goes)

pub returns-clause-found : goal.returns-clause-found
returns-clause-found g c = λ tells log.
    let a = g.L.Link.stand c.args.link.now in
    let m = g.L.Link.stand c.part_info.new.link in
    let n = g.L.Link.stand c.list_offset.new.self in
    let b = g.L.Link.stand c.list_offset-2.new.self in
    let part = c.args.part.now in
    let same : to_z w32 (of_z w32 part.partition) ≡ part.partition = grind (arith, to_z-of_z) in
    let low : to_z w64 (of_z w64 c.in_ok-start.start) ≡ c.in_ok-start.start = grind (arith, to_z-of_z) in
    let high : to_z w64 (of_z w64 c.in_ok-end.end) ≡ c.in_ok-end.end = grind (arith, to_z-of_z) in
    let first = c.part_info.ensures.consults.goes in
    let second = c.list_offset.ensures.goes.goes in
    let third = c.list_offset-2.ensures.goes.goes in
    let m_tells = first.telling tells in
    let n_tells = second.telling m_tells in
    let n_log = second.is_log m_tells (first.is_log tells log) in
    let at : named_at c.as_str-topic.result.now (to_z w32 (of_z w32 part.partition)) ≡ at_of part = named_is c.as_str-topic.result.now part.topic (to_z w32 (of_z w32 part.partition)) part.partition c.as_str-topic.ensures same in
    let start = subst (λ (p : TopicPart). IsEdge n.log p Start c.in_ok-start.start) at (c.in_ok-start.ensures.told m_tells) in
    let end = subst (λ (p : TopicPart). IsEdge b.log p End c.in_ok-end.end) at (c.in_ok-end.ensures.told n_tells) in
    edges_there a.log n.log b.log (at_of part) c.in_ok-start.start c.in_ok-end.end c.unsigned_abs.result c.unsigned_abs-2.result (third.is_log n_tells n_log)
    (keeps_on a.log n.log b.log (keeps_on a.log m.log n.log (first.keeps tells) (second.keeps m_tells)) (third.keeps n_tells)) (third.keeps n_tells) ((c.in_ok-part_info.ensures.found tells log).0) start end
    (c.unsigned_abs.ensures.value ∙ ap nat_abs low) (c.unsigned_abs-2.ensures.value ∙ ap nat_abs high)

pub returns-in_err-start-clause-good : goal.returns-in_err-start-clause-good
returns-in_err-start-clause-good g c = λ plain tells log.
    let a = g.L.Link.stand c.args.link.now in
    let m = g.L.Link.stand c.part_info.new.link in
    let part = c.args.part.now in
    let same : to_z w32 (of_z w32 part.partition) ≡ part.partition = grind (arith, to_z-of_z) in
    let first = c.part_info.ensures.consults.goes in
    let at : named_at c.as_str-topic.result.now (to_z w32 (of_z w32 part.partition)) ≡ at_of part = named_is c.as_str-topic.result.now part.topic (to_z w32 (of_z w32 part.partition)) part.partition c.as_str-topic.ensures same in
    let has = has_part_still a.log m.log (at_of part) (named_at c.as_str-topic.result.now (to_z w32 (of_z w32 part.partition))) at (first.keeps tells) ((c.in_ok-part_info.ensures.found tells log).0) in
    let p = err_from_is_err_and c.from_residual-in_err-start.result c.from_residual-in_err-start.ensures.1 in
    rw p.1 (subst IsWantIfLinks (sym p.2) (c.in_err-start.ensures.plainly (first.plainly plain) (first.telling tells) has))
