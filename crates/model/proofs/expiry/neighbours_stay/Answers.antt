use Rattle.model.proofs.Neighbours.{neighbour_stays, idle_is_gone}
use Rattle.model.proofs.expiry.neighbours_stay.Goals as goal

pub returns-clause-used : goal.returns-clause-used
returns-clause-used c = neighbour_stays

pub returns-clause-unused : goal.returns-clause-unused
returns-clause-unused c = idle_is_gone
