use Rattle.std.proofs.Common.{◌≡◌, ◌∙◌, ap, nat_abs, to_z, of_z, w32, arith}
use Rattle.std.proofs.lemmas.Int.{to_z-of_z}
use Rattle.std.proofs.Common.{map}
use Rattle.model.specs.texts.Bodies.{array}
use Rattle.rest_replies.specs.Topics.{node_in}
use Rattle.rest_replies.proofs.TopicsLemmas.{part_is}
use Rattle.rest_replies.proofs.topics.part_text.Goals as goal

pub returns : goal.returns
returns c =
    let leader : to_z w32 (of_z w32 c.args.part.now.leader) ≡ c.args.part.now.leader = grind (arith, to_z-of_z) in
    let number : to_z w32 (of_z w32 c.args.part.now.number) ≡ c.args.part.now.number = grind (arith, to_z-of_z) in
    c.from_string.ensures ∙ (c.in_ok-text.ensures
    ∙ part_is c.args.part.now c.unsigned_abs-number.result (to_z w32 (of_z w32 c.args.part.now.leader)) c.as_str.result.now (c.unsigned_abs-number.ensures.value ∙ ap nat_abs number) leader (c.as_str.ensures.value ∙ (c.in_ok-replicas-2.ensures ∙ ap array (c.as_slice-2.ensures.value ∙ (c.in_ok-replicas.ensures ∙ ap (map (node_in c.args.part.now)) c.as_slice.ensures)))))
