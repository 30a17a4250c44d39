use Rattle.model.proofs.Example.{history_is_legal}
use Rattle.model.proofs.legal.some_history_is_legal.Goals as goal

pub returns : goal.returns
returns c = history_is_legal
