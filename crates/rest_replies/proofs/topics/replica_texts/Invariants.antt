use Rattle.std.proofs.Common.{◌≡◌, map, take}
use Rattle.rest_replies.specs.Topics.{node_in}
use Rattle.rest_replies.proofs.topics.replica_texts.Given as goal

abbrev pub invariant-loop-node : goal.invariant-loop-node
invariant-loop-node l = l.texts.items ≡ map (node_in l.part) (take l.node-index l.nodes)
