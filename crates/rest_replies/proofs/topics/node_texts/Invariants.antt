use Rattle.std.proofs.Common.{◌≡◌, map, take}
use Rattle.std.specs.Fmt.{signed_decimal}
use Rattle.rest_replies.proofs.topics.node_texts.Given as goal

abbrev pub invariant-loop-node : goal.invariant-loop-node
invariant-loop-node l = l.texts.items ≡ map signed_decimal (take l.node-index l.nodes)
