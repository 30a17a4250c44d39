use Rattle.std.proofs.Common.{refl}
use Rattle.broker_link.proofs.Storing.{store_at}
use Rattle.broker_link.proofs.topics.MemTopics.store.Goals as goal

pub returns-clause-ok : goal.returns-clause-ok
returns-clause-ok c =
    store_at c.args.self.now.list.items c.args.self.now.list.items c.args.place c.index_mut.result.now c.append.new.self c.append.result c.args.number c.args.records.now
    refl c.index_mut.ensures.value c.append.ensures.ok
