use Rattle.model.proofs.Noted.{stands_first}
use Rattle.model.proofs.standing.standing_begins.Goals as goal

pub returns : goal.returns
returns c = stands_first
