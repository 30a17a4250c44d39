use Rattle.std.proofs.Common.{inl}
use Rattle.body_read.proofs.ChunkParts.{line_of_front, front_no_line, never_no_line}
use Rattle.body_read.proofs.part.full_line.Goals as goal

pub returns-in-Whole : goal.returns-in-Whole
returns-in-Whole c =
    let found = c.in-Whole.ensures in
    let line = line_of_front c.args.bytes.now c.in-Whole.len found.1 found.0 found.2 in
    (line.0, line.1, found.1, line.2, found.3)

pub returns-in-Cut : goal.returns-in-Cut
returns-in-Cut c = inl (c.requires, front_no_line c.args.bytes.now c.requires c.in-Cut.ensures.0)

pub returns-in-Bad : goal.returns-in-Bad
returns-in-Bad c = inl (c.requires, front_no_line c.args.bytes.now c.requires (never_no_line _ c.in-Bad.ensures))
