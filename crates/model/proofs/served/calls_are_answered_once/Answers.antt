use Rattle.model.proofs.Serving.{answered_once, rounds_count}
use Rattle.model.proofs.served.calls_are_answered_once.Goals as goal

pub returns-clause-once : goal.returns-clause-once
returns-clause-once c = answered_once

pub returns-clause-rounds : goal.returns-clause-rounds
returns-clause-rounds c = rounds_count
