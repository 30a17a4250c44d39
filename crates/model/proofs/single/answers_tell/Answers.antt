use Rattle.model.proofs.Singles.{done_commits, short_commits, listed_commits, excluded, subscribed, deleted, assigns, in_order, codes_passed, told, by_topics, passed}
use Rattle.model.proofs.Causal.{assign_refused, committed_refused, assign_reads}
use Rattle.model.proofs.Emptiness.{empty_replies}
use Rattle.model.proofs.single.answers_tell.Goals as goal

pub returns-clause-done : goal.returns-clause-done
returns-clause-done c = done_commits

pub returns-clause-short : goal.returns-clause-short
returns-clause-short c = short_commits

pub returns-clause-listed : goal.returns-clause-listed
returns-clause-listed c = listed_commits

pub returns-clause-excluded : goal.returns-clause-excluded
returns-clause-excluded c = excluded

pub returns-clause-subscribed : goal.returns-clause-subscribed
returns-clause-subscribed c = subscribed

pub returns-clause-deleted : goal.returns-clause-deleted
returns-clause-deleted c = deleted

pub returns-clause-assigned : goal.returns-clause-assigned
returns-clause-assigned c = assigns

pub returns-clause-order : goal.returns-clause-order
returns-clause-order c = in_order

pub returns-clause-codes : goal.returns-clause-codes
returns-clause-codes c = codes_passed

pub returns-clause-told : goal.returns-clause-told
returns-clause-told c = told

pub returns-clause-by_topics : goal.returns-clause-by_topics
returns-clause-by_topics c = by_topics

pub returns-clause-passed : goal.returns-clause-passed
returns-clause-passed c = passed

pub returns-clause-refused : goal.returns-clause-refused
returns-clause-refused c = assign_refused

pub returns-clause-unknown : goal.returns-clause-unknown
returns-clause-unknown c = committed_refused

pub returns-clause-reads : goal.returns-clause-reads
returns-clause-reads c = assign_reads

pub returns-clause-empty : goal.returns-clause-empty
returns-clause-empty c = empty_replies
