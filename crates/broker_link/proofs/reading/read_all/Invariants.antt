use Rattle.std.proofs.Common.{take}
use Rattle.broker_link.specs.Reads.{IsReading}
use Rattle.broker_link.specs.Stored.{log_of}
use Rattle.broker_link.proofs.reading.read_all.Given as goal

abbrev pub invariant-loop-ask : goal.invariant-loop-ask
invariant-loop-ask l = IsReading (log_of l.topics.list.items) l.max_bytes (take l.ask-index l.asks) l.fetched l.bound
