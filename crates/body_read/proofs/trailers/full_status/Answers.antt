use Rattle.std.proofs.Common.{arith, inl, inr, refl, length-take, ℕ}
use Rattle.body_read.proofs.ChunkParts.{may_not_spoilt, has_not_spoilt}
use Rattle.body_read.proofs.trailers.full_status.Goals as goal

pub slice_bounds-parse_trailers-end : goal.slice_bounds-parse_trailers-end
slice_bounds-parse_trailers-end c = omega (arith, c.requires.long, length-take {A = ℕ} 16383 c.args.bytes.now)

pub parse_trailers-requires-clause-short : goal.parse_trailers-requires-clause-short
parse_trailers-requires-clause-short c = omega (arith, length-take {A = ℕ} 16383 c.args.bytes.now)

pub returns-in-Open : goal.returns-in-Open
returns-in-Open c = inr (inl ((c.requires.long, c.requires.none, may_not_spoilt c.args.bytes.now c.in-Open.ensures.1), refl))

pub returns-in-Whole : goal.returns-in-Whole
returns-in-Whole c =
    let found = c.in-Whole.ensures in
    inr (inl ((c.requires.long, c.requires.none, has_not_spoilt c.args.bytes.now found.1 _ found.2), refl))

pub returns-in-Many : goal.returns-in-Many
returns-in-Many c =
    let found = c.in-Many.ensures in
    inr (inl ((c.requires.long, c.requires.none, has_not_spoilt c.args.bytes.now found.0 found.1 found.2), refl))
