use Rattle.std.proofs.Common.{◌≡◌, map, take}
use Rattle.rest_replies.specs.Topics.{text_of}
use Rattle.rest_replies.proofs.topics.part_texts.Given as goal

abbrev pub invariant-loop-part : goal.invariant-loop-part
invariant-loop-part l = l.texts.items ≡ map text_of (take l.part-index l.parts)
