use Rattle.std.proofs.Common.{sym, subst}
use Rattle.rest_replies.specs.Failure.{SaysOrWant}
use Rattle.consumer_state.specs.LinkCalls.{refusal_of}
use Rattle.consumer_state.specs.declared.topics.AssignNo.{AssignNo}
use Rattle.consumer_state.proofs.assign.refusal.Goals as goal

pub returns-in-NoTopic : goal.returns-in-NoTopic
returns-in-NoTopic c = record { says = subst (λ (e : AssignNo). SaysOrWant (refusal_of e) c.refused.result) (sym c.in-NoTopic.is) c.refused.ensures.says }

pub returns-in-NoPartition : goal.returns-in-NoPartition
returns-in-NoPartition c = record { says = subst (λ (e : AssignNo). SaysOrWant (refusal_of e) c.refused-in-NoPartition.result) (sym c.in-NoPartition.is) c.refused-in-NoPartition.ensures.says }
