use Rattle.model.proofs.Waiting.{waited_is_legal, looks_serve}
use Rattle.model.proofs.examples.a_wait_has_four_looks.Goals as goal

pub returns-clause-legal : goal.returns-clause-legal
returns-clause-legal c = waited_is_legal

pub returns-clause-serves : goal.returns-clause-serves
returns-clause-serves c = looks_serve
