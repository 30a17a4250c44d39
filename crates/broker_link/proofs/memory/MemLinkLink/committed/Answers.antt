use Rattle.broker_link.proofs.Taking.{none_told}
use Rattle.broker_link.proofs.memory.MemLinkLink.committed.Goals as goal

pub returns-clause-told : goal.returns-clause-told
returns-clause-told c = λ plans.
    none_told c.begin_reading.new.self.topics.list.items c.begin_reading.new.self.others c.args._group.now c.args.parts.now c.in_ok-offsets.offsets c.in_ok-offsets.ensures.count c.in_ok-offsets.ensures.none
