use Rattle.model.proofs.Pins.{looks_owe, commits_owe, events_owed}
use Rattle.model.proofs.pinned.events_are_pinned.Goals as goal

pub returns-clause-looks : goal.returns-clause-looks
returns-clause-looks c = looks_owe

pub returns-clause-commits : goal.returns-clause-commits
returns-clause-commits c = commits_owe

pub returns-clause-owed : goal.returns-clause-owed
returns-clause-owed c = events_owed
