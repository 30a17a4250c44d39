use Rattle.std.proofs.Common.{ℕ, length-take, arith}
use Rattle.http_conn.proofs.StreamLemmas.{front_lost, front_open}
use Rattle.http_head.proofs.HeadLemmas.{front_has_head, head_of}
use Rattle.http_conn.proofs.connection.full_status.Goals as goal

pub slice_bounds-judge-end : goal.slice_bounds-judge-end
slice_bounds-judge-end c = omega (arith, c.requires.long, length-take {A = ℕ} 16383 c.args.held.now)

pub judge-requires-clause-short : goal.judge-requires-clause-short
judge-requires-clause-short c = omega (arith, length-take {A = ℕ} 16383 c.args.held.now)

pub returns-in-Lost : goal.returns-in-Lost
returns-in-Lost c = front_lost c.args.held.now 16383 (omega arith) c.in-Lost.ensures

pub returns-in-Unfinished : goal.returns-in-Unfinished
returns-in-Unfinished c = front_open c.args.held.now 16383 (omega arith) c.requires.long c.requires.none c.in-Unfinished.ensures.1

pub returns-in-Whole : goal.returns-in-Whole
returns-in-Whole c =
    let is = c.in-Whole.ensures in
    absurd (front_has_head c.args.held.now 16383 is.head _ c.requires.none (head_of _ _ _ is))

pub returns-in-Refused : goal.returns-in-Refused
returns-in-Refused c =
    let is = c.in-Refused.ensures in
    absurd (front_has_head c.args.held.now 16383 is.head is.after c.requires.none is.at)
