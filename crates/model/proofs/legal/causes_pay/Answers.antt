use Rattle.model.proofs.Causes.{caused_is_paid}
use Rattle.model.proofs.legal.causes_pay.Goals as goal

pub returns : goal.returns
returns c = caused_is_paid
