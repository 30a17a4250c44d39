use Rattle.model.proofs.Keys.{keys_apart}
use Rattle.model.proofs.expiry.keys_are_apart.Goals as goal

pub returns : goal.returns
returns c = keys_apart
