use Rattle.model.proofs.Paid.{faults_are_paid, refusals_are_paid}
use Rattle.model.proofs.legal.answers_are_paid.Goals as goal

pub returns-clause-faults : goal.returns-clause-faults
returns-clause-faults c = faults_are_paid

pub returns-clause-refusals : goal.returns-clause-refusals
returns-clause-refusals c = refusals_are_paid
