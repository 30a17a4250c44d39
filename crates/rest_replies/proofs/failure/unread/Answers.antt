use Rattle.std.proofs.Common.{◌∙◌}
use Rattle.rest_replies.proofs.FailureLemmas.{says_unread}
use Rattle.rest_replies.proofs.failure.unread.Goals as goal

pub returns : goal.returns
returns c = λ row offset_is. says_unread c.args.topic.now c.args.partition c.args.offset c.args.reason row c.from_string.result offset_is (c.from_string.ensures ∙ c.in_ok-text.ensures)
