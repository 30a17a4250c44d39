use Rattle.std.proofs.Common.{take, drop, subst, List, ℕ}
use Rattle.std.proofs.lemmas.List.{take-append-drop}
use Rattle.http_head.specs.Head.{max_head}
use Rattle.http_head.specs.Parts.{IsHead}
use Rattle.http_conn.proofs.StreamLemmas.{full_refused}
use Rattle.http_head.proofs.HeadLemmas.{IsHead-append, full_none, never_none}
use Rattle.http_conn.proofs.connection.judge_full.Goals as goal

pub returns-in-Whole : goal.returns-in-Whole
returns-in-Whole c = λ left.
    subst (λ (l : List ℕ). IsHead l c.judge.new.headers c.in-Whole.head) (take-append-drop max_head c.args.held.now)
    (IsHead-append (take max_head c.args.held.now) (drop max_head c.args.held.now) c.judge.new.headers c.in-Whole.head c.in-Whole.ensures)

pub returns-in-Refused : goal.returns-in-Refused
returns-in-Refused c = λ left. full_refused c.args.held.now c.in-Refused.code c.in-Refused.ensures

pub full_status-requires-clause-none : goal.full_status-requires-clause-none
full_status-requires-clause-none c = full_none c.args.held.now c.requires.long (never_none (take max_head c.args.held.now) c.in-Lost.ensures.0)

pub full_status-requires-in-Unfinished-clause-none : goal.full_status-requires-in-Unfinished-clause-none
full_status-requires-in-Unfinished-clause-none c = full_none c.args.held.now c.requires.long c.in-Unfinished.ensures.0
