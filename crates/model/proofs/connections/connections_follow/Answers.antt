use Rattle.model.specs.history.Connections.{IsConnection}
use Rattle.model.proofs.ConnectionLemmas.{parts_more}
use Rattle.model.proofs.connections.connections_follow.Goals as goal

pub returns : goal.returns
returns c = λ shard connections entries own house handled worn are is houses. parts_more (λ c. IsConnection shard c.0 c.1) connections entries own house (handled, worn) are is houses
