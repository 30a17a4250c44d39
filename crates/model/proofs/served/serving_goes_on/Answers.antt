use Rattle.model.proofs.Serving.{serves_more}
use Rattle.model.proofs.served.serving_goes_on.Goals as goal

pub returns : goal.returns
returns c = serves_more
