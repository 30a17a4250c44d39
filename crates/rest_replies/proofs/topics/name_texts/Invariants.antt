use Rattle.std.proofs.Common.{◌≡◌, map, take}
use Rattle.rest_replies.specs.Topics.{quoted_name}
use Rattle.rest_replies.proofs.topics.name_texts.Given as goal

abbrev pub invariant-loop-info : goal.invariant-loop-info
invariant-loop-info l = l.texts.items ≡ map quoted_name (take l.info-index l.infos)
