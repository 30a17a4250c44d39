use Rattle.model.proofs.Allows.{part_of_a_commit, rebalance_after_a_commit, want_behind_a_commit, delete_in_part, empty_commit}
use Rattle.model.proofs.Lates.{late_legal, late_steps, worn_is_followed, commits_may_pass, later_may_be_told, want_may_follow}
use Rattle.model.proofs.rights.these_are_allowed.Goals as goal

pub returns-clause-part : goal.returns-clause-part
returns-clause-part c = part_of_a_commit

pub returns-clause-rebalance : goal.returns-clause-rebalance
returns-clause-rebalance c = rebalance_after_a_commit

pub returns-clause-wants : goal.returns-clause-wants
returns-clause-wants c = want_behind_a_commit

pub returns-clause-deleted : goal.returns-clause-deleted
returns-clause-deleted c = delete_in_part

pub returns-clause-empty : goal.returns-clause-empty
returns-clause-empty c = empty_commit

pub returns-clause-late : goal.returns-clause-late
returns-clause-late c = late_legal

pub returns-clause-late_step : goal.returns-clause-late_step
returns-clause-late_step c = late_steps

pub returns-clause-worn : goal.returns-clause-worn
returns-clause-worn c = worn_is_followed

pub returns-clause-passed : goal.returns-clause-passed
returns-clause-passed c = commits_may_pass

pub returns-clause-told : goal.returns-clause-told
returns-clause-told c = later_may_be_told

pub returns-clause-wanting : goal.returns-clause-wanting
returns-clause-wanting c = want_may_follow
