use Rattle.std.proofs.Common.{List, ℕ, Some, refl, subst}
use Rattle.rest_calls.specs.Reading.{AssignedAs}
use Rattle.rest_calls.specs.Reads.{parts_view}
use Rattle.rest_calls.proofs.sent.seek_edge.Goals as goal

pub returns-in-Ok-clause-reads : goal.returns-in-Ok-clause-reads
returns-in-Ok-clause-reads c =
    let parts = parts_view c.in-Ok.parts in
    let body : AssignedAs c.args.request.now.body (Some parts) = subst (λ (l : List ℕ). AssignedAs l (Some parts)) c.as_slice.ensures c.in-Ok.ensures in
    (Some parts, body, refl)
