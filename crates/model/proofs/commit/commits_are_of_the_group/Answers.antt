use Rattle.model.proofs.Committing.{other_groups_stay, looks_commit_positions}
use Rattle.model.proofs.commit.commits_are_of_the_group.Goals as goal

pub returns-clause-others : goal.returns-clause-others
returns-clause-others c = other_groups_stay

pub returns-clause-positions : goal.returns-clause-positions
returns-clause-positions c = looks_commit_positions
