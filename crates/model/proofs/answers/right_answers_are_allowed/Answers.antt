use Rattle.model.proofs.Allowed.{sorted_topics, passed_over}
use Rattle.model.proofs.answers.right_answers_are_allowed.Goals as goal

pub returns-clause-sorted : goal.returns-clause-sorted
returns-clause-sorted c = sorted_topics

pub returns-clause-passed : goal.returns-clause-passed
returns-clause-passed c = passed_over
