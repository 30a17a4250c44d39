use Rattle.model.specs.state.World.{nobody}
use Rattle.model.proofs.Stored.{stored_is_shown}
use Rattle.model.proofs.produce.stored_is_shown.Goals as goal

pub returns-clause-history : goal.returns-clause-history
returns-clause-history c idle counts before e between f after w l legal = stored_is_shown idle nobody legal.first before e between f after l w legal.tally legal.run

pub returns-clause-runs : goal.returns-clause-runs
returns-clause-runs c = stored_is_shown
