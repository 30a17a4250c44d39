use Rattle.model.proofs.Subscribing.{read_by_subscription_is_legal}
use Rattle.model.proofs.ReadingReplies.{read_by_subscription_replies}
use Rattle.model.proofs.examples.reading_by_subscription_is_legal.Goals as goal

pub returns-clause-legal : goal.returns-clause-legal
returns-clause-legal c = read_by_subscription_is_legal

pub returns-clause-replies : goal.returns-clause-replies
returns-clause-replies c = read_by_subscription_replies
