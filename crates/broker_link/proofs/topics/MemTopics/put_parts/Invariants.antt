use Rattle.std.proofs.Common.{take}
use Rattle.broker_link.specs.Stored.{ArePut, log_of}
use Rattle.broker_link.proofs.topics.MemTopics.put_parts.Given as goal

abbrev pub invariant-loop-part : goal.invariant-loop-part
invariant-loop-part l = ArePut (log_of l.fn.self.list.items) (log_of l.self.list.items) l.topic (take l.part-index l.parts) l.placed
