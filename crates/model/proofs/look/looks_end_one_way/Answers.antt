use Rattle.model.proofs.Ends.{ends_alike, has_end}
use Rattle.model.proofs.look.looks_end_one_way.Goals as goal

pub returns-clause-one : goal.returns-clause-one
returns-clause-one c = ends_alike

pub returns-clause-some : goal.returns-clause-some
returns-clause-some c = has_end
