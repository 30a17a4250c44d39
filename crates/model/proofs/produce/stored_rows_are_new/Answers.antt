use Rattle.model.proofs.Stored.{stored_anew}
use Rattle.model.proofs.produce.stored_rows_are_new.Goals as goal

pub returns : goal.returns
returns c = stored_anew
