use Rattle.model.proofs.Stretches.{legal_on}
use Rattle.model.proofs.legal.histories_go_on.Goals as goal

pub returns : goal.returns
returns c = legal_on
