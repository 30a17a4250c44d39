use Rattle.std.proofs.Common.{inl, refl, drop, ◌++◌}
use Rattle.http_head.specs.Head.{max_head}
use Rattle.body_read.proofs.ChunkParts.{front_no_trailers, never_no_section, trailers_at_front, trailers_of_front}
use Rattle.body_read.proofs.trailers.full_end.Goals as goal

pub full_status-requires-clause-none : goal.full_status-requires-clause-none
full_status-requires-clause-none c = front_no_trailers c.args.bytes.now c.requires.long c.in-Open.ensures.0

pub full_status-requires-in-Lost-clause-none : goal.full_status-requires-in-Lost-clause-none
full_status-requires-in-Lost-clause-none c = front_no_trailers c.args.bytes.now c.requires.long (never_no_section _ c.in-Lost.ensures)

pub returns-in-Whole : goal.returns-in-Whole
returns-in-Whole c =
    let found = c.in-Whole.ensures in
    let here = trailers_at_front max_head c.in-Whole.len c.args.bytes.now found.1 found.0 found.2 in
    (here.0, (found.1, here.1, found.3))

pub returns-in-Many : goal.returns-in-Many
returns-in-Many c =
    let found = c.in-Many.ensures in
    inl ((found.0, found.1 ++ drop max_head c.args.bytes.now, trailers_of_front max_head c.args.bytes.now found.0 found.1 found.2, found.3), refl)
