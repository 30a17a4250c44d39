use Rattle.std.proofs.Common.{subst, sym}
use Rattle.rest_replies.specs.Failure.{SaysOrWant}
use Rattle.rest_replies.specs.Found.{refusal_of}
use Rattle.rest_replies.specs.declared.found.AskNo.{AskNo}
use Rattle.rest_replies.proofs.topics.nothing.Goals as goal

pub returns-in-NoTopic : goal.returns-in-NoTopic
returns-in-NoTopic c = subst (λ (e : AskNo). SaysOrWant (refusal_of e) c.refused.result) (sym c.in-NoTopic.is) c.refused.ensures.says

pub returns-in-NoPartition : goal.returns-in-NoPartition
returns-in-NoPartition c = subst (λ (e : AskNo). SaysOrWant (refusal_of e) c.refused-in-NoPartition.result) (sym c.in-NoPartition.is) c.refused-in-NoPartition.ensures.says
