use Rattle.model.proofs.Owed.{steps_tell, steps_pass, steps_answer, steps_share, steps_show}
use Rattle.model.proofs.standing.steps_are_owed.Goals as goal

pub returns-clause-codes : goal.returns-clause-codes
returns-clause-codes c = steps_tell

pub returns-clause-passed : goal.returns-clause-passed
returns-clause-passed c = steps_pass

pub returns-clause-code : goal.returns-clause-code
returns-clause-code c = steps_answer

pub returns-clause-given : goal.returns-clause-given
returns-clause-given c = steps_share

pub returns-clause-shown : goal.returns-clause-shown
returns-clause-shown c = steps_show
