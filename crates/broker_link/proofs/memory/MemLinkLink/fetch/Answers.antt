use Rattle.broker_link.proofs.Taking.{are_got_with, in_turn_with}
use Rattle.broker_link.proofs.memory.MemLinkLink.fetch.Goals as goal

pub returns-clause-got : goal.returns-clause-got
returns-clause-got c = λ plans.
    are_got_with c.begin_reading.new.self.topics.list.items c.begin_reading.new.self.others _ c.args.asks.now c.in_ok-fetched.fetched c.in_ok-fetched.ensures

pub returns-clause-turn : goal.returns-clause-turn
returns-clause-turn c = λ turn plans.
    in_turn_with c.begin_reading.new.self.topics.list.items c.begin_reading.new.self.others c.args.max_bytes c.args.asks.now c.in_ok-fetched.fetched c.in_ok-fetched.ensures
