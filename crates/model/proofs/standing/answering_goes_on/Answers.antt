use Rattle.model.proofs.Answering.{answers_more, stays_out, rounds_count, entered_once}
use Rattle.model.proofs.standing.answering_goes_on.Goals as goal

pub returns-clause-entered : goal.returns-clause-entered
returns-clause-entered c = answers_more

pub returns-clause-stayed : goal.returns-clause-stayed
returns-clause-stayed c = stays_out

pub returns-clause-rounds : goal.returns-clause-rounds
returns-clause-rounds c = rounds_count

pub returns-clause-once : goal.returns-clause-once
returns-clause-once c = entered_once
