use Rattle.model.proofs.ConnectionLemmas.{connection_more, connection_stays, connection_wears}
use Rattle.model.proofs.connections.connections_go_on.Goals as goal

pub returns-clause-answered : goal.returns-clause-answered
returns-clause-answered c = connection_more

pub returns-clause-stayed : goal.returns-clause-stayed
returns-clause-stayed c = connection_stays

pub returns-clause-worn : goal.returns-clause-worn
returns-clause-worn c = connection_wears
