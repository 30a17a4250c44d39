use Rattle.model.proofs.Refused.{refused_look, seek_alone, delete_deletes, rebalance_reads, rebalance_is_listed, due_commits, quiet_looks, told_once}
use Rattle.model.proofs.answers.wrong_answers_are_refused.Goals as goal

pub returns-clause-refused_look : goal.returns-clause-refused_look
returns-clause-refused_look c = refused_look

pub returns-clause-seek : goal.returns-clause-seek
returns-clause-seek c = seek_alone

pub returns-clause-delete : goal.returns-clause-delete
returns-clause-delete c = delete_deletes

pub returns-clause-rebalance : goal.returns-clause-rebalance
returns-clause-rebalance c = rebalance_reads

pub returns-clause-repeat : goal.returns-clause-repeat
returns-clause-repeat c = told_once

pub returns-clause-listed : goal.returns-clause-listed
returns-clause-listed c = rebalance_is_listed

pub returns-clause-due : goal.returns-clause-due
returns-clause-due c = due_commits

pub returns-clause-quiet : goal.returns-clause-quiet
returns-clause-quiet c = quiet_looks
