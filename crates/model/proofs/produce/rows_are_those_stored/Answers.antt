use Rattle.model.proofs.Added.{run_adds, others_rise}
use Rattle.model.proofs.produce.rows_are_those_stored.Goals as goal

pub returns-clause-others : goal.returns-clause-others
returns-clause-others c = others_rise

pub returns-clause-rows : goal.returns-clause-rows
returns-clause-rows c = run_adds
