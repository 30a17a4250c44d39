use Rattle.model.proofs.Asking.{questions_are_legal}
use Rattle.model.proofs.ReadingReplies.{questions_replies}
use Rattle.model.proofs.examples.questions_are_answered.Goals as goal

pub returns-clause-legal : goal.returns-clause-legal
returns-clause-legal c = questions_are_legal

pub returns-clause-replies : goal.returns-clause-replies
returns-clause-replies c = questions_replies
