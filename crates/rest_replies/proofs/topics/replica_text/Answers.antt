use Rattle.std.proofs.Common.{◌≡◌, ◌∙◌, ℤ, ap, refl, to_z, of_z, w32, arith}
use Rattle.std.proofs.lemmas.Int.{to_z-of_z}
use Rattle.model.specs.texts.Bodies.{bool_text}
use Rattle.rest_replies.specs.Topics.{replica_line}
use Rattle.rest_replies.proofs.TopicsLemmas.{replica_is}
use Rattle.rest_replies.proofs.topics.replica_text.Goals as goal

pub returns : goal.returns
returns c =
    let same : to_z w32 (of_z w32 c.args.node) ≡ c.args.node = grind (arith, to_z-of_z) in
    let leader : to_z w32 (of_z w32 c.args.part.now.leader) ≡ c.args.part.now.leader = grind (arith, to_z-of_z) in
    c.from_string.ensures ∙ (c.in_ok-text.ensures ∙ (ap (λ (n : ℤ). replica_line n c.word-leader.result.now c.word-in_sync.result.now) same
    ∙ replica_is c.args.part.now c.args.node c.word-leader.result.now c.word-in_sync.result.now (c.word-leader.ensures ∙ ap bool_text (c.is_node.ensures ∙ rw (same, leader) refl)) (c.word-in_sync.ensures ∙ ap bool_text (c.has_node.ensures ∙ rw (same, c.as_slice.ensures) refl))))
