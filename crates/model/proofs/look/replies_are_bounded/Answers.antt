use Rattle.model.proofs.Bounds.{replies_bounded}
use Rattle.model.proofs.look.replies_are_bounded.Goals as goal

pub returns : goal.returns
returns c = replies_bounded
