use Rattle.std.proofs.Common.{◌≡◌, take, map}
use Rattle.broker_link.specs.Made.{empty_topic}
use Rattle.broker_link.proofs.topics.make_topics.Given as goal

abbrev pub invariant-loop-plan : goal.invariant-loop-plan
invariant-loop-plan l = l.topics.items ≡ map empty_topic (take l.plan-index l.plans)
