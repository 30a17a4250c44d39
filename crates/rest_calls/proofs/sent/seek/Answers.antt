use Rattle.std.proofs.Common.{List, ℕ, Some, refl, subst}
use Rattle.rest_calls.specs.Reading.{SoughtAs}
use Rattle.rest_calls.specs.Reads.{places_view}
use Rattle.rest_calls.proofs.sent.seek.Goals as goal

pub returns-in-Ok-clause-reads : goal.returns-in-Ok-clause-reads
returns-in-Ok-clause-reads c =
    let places = places_view c.in-Ok.places in
    let body : SoughtAs c.args.request.now.body (Some places) = subst (λ (l : List ℕ). SoughtAs l (Some places)) c.as_slice.ensures c.in-Ok.ensures in
    (Some places, body, refl)
