use Rattle.model.proofs.Pins.{blame_nobody, other_calls, refused_are_large}
use Rattle.model.proofs.pinned.sessions_are_quiet.Goals as goal

pub returns-clause-large : goal.returns-clause-large
returns-clause-large c = refused_are_large

pub returns-clause-link : goal.returns-clause-link
returns-clause-link c size idle first entries b w2 n run quiet = blame_nobody entries quiet.faults

pub returns-clause-codes : goal.returns-clause-codes
returns-clause-codes c = other_calls
