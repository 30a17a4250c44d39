use Rattle.std.proofs.Common.{take}
use Rattle.broker_link.specs.Fetching.{HaveAsked}
use Rattle.broker_link.specs.Stored.{log_of}
use Rattle.broker_link.proofs.topics.MemTopics.have.Given as goal

abbrev pub invariant-loop-ask : goal.invariant-loop-ask
invariant-loop-ask l = HaveAsked (log_of l.self.list.items) (take l.ask-index l.asks)
