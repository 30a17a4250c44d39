use Rattle.std.specs.Prelude.{codes}
use Rattle.rest_calls.specs.Body.{items_in, member_of}
use Rattle.rest_calls.proofs.Records.{items_listed}
use Rattle.rest_calls.proofs.body.batch_in.Goals as goal

pub rows_of-requires-clause-nodes : goal.rows_of-requires-clause-nodes
rows_of-requires-clause-nodes c =
    let given = c.requires.node in
    let l = items_listed c.args.tree.now (items_in (member_of (codes "records") given.0)) c.in-Some.nodes (c.in-Some.ensures given.0 given.1) in
    (l.0, l.2)
