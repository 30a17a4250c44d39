use Rattle.model.proofs.Answering.{seen_are_own, houses_are_few}
use Rattle.model.proofs.standing.noted_grow.Goals as goal

pub returns-clause-seen : goal.returns-clause-seen
returns-clause-seen c = seen_are_own

pub returns-clause-house : goal.returns-clause-house
returns-clause-house c = houses_are_few
