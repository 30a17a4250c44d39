use Rattle.model.proofs.Noted.{stands_more}
use Rattle.model.proofs.standing.standing_goes_on.Goals as goal

pub returns : goal.returns
returns c = stands_more
