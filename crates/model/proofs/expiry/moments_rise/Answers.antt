use Rattle.model.proofs.Neighbours.{moments_rise}
use Rattle.model.proofs.expiry.moments_rise.Goals as goal

pub returns : goal.returns
returns c = moments_rise
