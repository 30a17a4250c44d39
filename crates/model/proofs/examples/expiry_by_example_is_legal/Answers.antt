use Rattle.model.proofs.Expiring.{made_used_gone_is_legal}
use Rattle.model.proofs.ReadingReplies.{made_used_gone_replies}
use Rattle.model.proofs.examples.expiry_by_example_is_legal.Goals as goal

pub returns-clause-legal : goal.returns-clause-legal
returns-clause-legal c = made_used_gone_is_legal

pub returns-clause-replies : goal.returns-clause-replies
returns-clause-replies c = made_used_gone_replies
