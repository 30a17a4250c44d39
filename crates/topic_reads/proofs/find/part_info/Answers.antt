use Rattle.std.proofs.Common.{◌≡◌, ◌∙◌, ℕ, ℤ, List, length, ap, subst, sym, to_z, of_z, w32, arith}
use Rattle.std.proofs.lemmas.Int.{to_z-of_z}
use Rattle.broker_link.specs.Fetching.{at_of}
use Rattle.model.specs.step.Step.{HasTopic, parts_of}
use Rattle.topic_reads.specs.Finding.{part_of}
use Rattle.topic_reads.proofs.Topics.{numbered_of, part_gone, part_there, whole_is}
use Rattle.topic_reads.proofs.find.part_info.Goals as goal

pub returns-in-Some-clause-found : goal.returns-in-Some-clause-found
returns-in-Some-clause-found g c = λ tells log.
    let a = g.L.Link.stand c.args.link.now in
    let part = c.args.part.now in
    let same : to_z w32 (of_z w32 part.partition) ≡ part.partition = grind (arith, to_z-of_z) in
    let told = c.in_ok-info.ensures.found tells log in
    let count = subst (λ (t : List ℕ). length c.in_ok-info.info.parts ≡ parts_of a.log t) c.as_str.ensures told.2 in
    let found = ap (λ (n : ℤ). part_of n c.in_ok-info.info.parts) (sym same) ∙ (sym c.part_in.ensures ∙ c.in-Some.is) in
    part_there a.log (at_of part) part.partition c.in_ok-info.info.parts c.in-Some.part (whole_is part.partition part.whole) told.1 count found

pub returns-in-Some-clause-nodes : goal.returns-in-Some-clause-nodes
returns-in-Some-clause-nodes g c =
    let part = c.args.part.now in
    let same : to_z w32 (of_z w32 part.partition) ≡ part.partition = grind (arith, to_z-of_z) in
    let found = ap (λ (n : ℤ). part_of n c.in_ok-info.info.parts) (sym same) ∙ (sym c.part_in.ensures ∙ c.in-Some.is) in
    numbered_of (g.L.Link.stand c.args.link.now).nodes c.in_ok-info.info.parts part.partition c.in-Some.part c.in_ok-info.ensures.nodes found

pub returns-in-None-clause-found : goal.returns-in-None-clause-found
returns-in-None-clause-found g c = λ tells log.
    let a = g.L.Link.stand c.args.link.now in
    let part = c.args.part.now in
    let same : to_z w32 (of_z w32 part.partition) ≡ part.partition = grind (arith, to_z-of_z) in
    let told = c.in_ok-info.ensures.found tells log in
    let has = subst (λ (t : List ℕ). HasTopic a.log t) c.as_str.ensures told.0 in
    let count = subst (λ (t : List ℕ). length c.in_ok-info.info.parts ≡ parts_of a.log t) c.as_str.ensures told.2 in
    let lacks = ap (λ (n : ℤ). part_of n c.in_ok-info.info.parts) (sym same) ∙ (sym c.part_in.ensures ∙ c.in-None.is) in
    (has, part_gone a.log (at_of part) part.partition c.in_ok-info.info.parts (whole_is part.partition part.whole) told.1 count lacks)
